-- The distance exists, wherever film and drawing hold a cell.
use Rattle.std.proofs.Common.{◌≡◌, ℕ, zero, suc, ◌-◌, ◌^◌, ◌<◌, ◌≤◌, true, false, ◌⊎◌, sym, refl, ◌∙◌, subst, inl, inr, arith}
use Rattle.std.proofs.lemmas.Bool.{cases_lt, cases_Bool, both_ways}
use Rattle.board.proofs.Bounded.{bounds}
use Rattle.store.specs.Stores.{counts, Holds, StoreFacts}
use Rattle.store.specs.declared.store.Answer.{Answer}
use Rattle.comparison.specs.World.{World, Facts, InFilm, InDrawing, NearestTo, Strayed, dist}
use Rattle.comparison.proofs.Keying.{last, film_code, drawing_code}

-- the first of the numbers below n at which m is greatest, of those that P holds of
record First (P : ℕ → Type 0) (m : ℕ → ℕ) (n : ℕ) : Type 0 where
  at : ℕ
  within : at < n
  holds : P at
  greatest : (c : ℕ) → c < n → P c → m c ≤ m at
  earliest : (c : ℕ) → c < n → P c → m c ≡ m at → at ≤ c

module _ (P : ℕ → Type 0) (decide : (c : ℕ) → P c ⊎ (P c → ⊥)) (m : ℕ → ℕ) where
  abbrev None : ℕ → Type 0
  None n = (c : ℕ) → c < n → P c → ⊥

  more : (n : ℕ) → None n ⊎ First P m n → P n ⊎ (P n → ⊥) → None (suc n) ⊎ First P m (suc n)
  more n (inl none) (inr not) = inl (λ c h p. last n c h (λ l. none c l p) (λ e. not (subst P e p)))
  more n (inl none) (inl here) = inr (record {
    at = n;
    within = omega arith;
    holds = here;
    greatest = λ c h p. last n c h (λ l. absurd (none c l p)) (λ e. rw e (omega arith));
    earliest = λ c h p q. last n c h (λ l. absurd (none c l p)) (λ e. omega arith);
  })
  more n (inr f) (inr not) = inr (record {
    at = f.at;
    within = omega (arith, f.within);
    holds = f.holds;
    greatest = λ c h p. last n c h (λ l. f.greatest c l p) (λ e. absurd (not (subst P e p)));
    earliest = λ c h p q. last n c h (λ l. f.earliest c l p q) (λ e. absurd (not (subst P e p)));
  })
  more n (inr f) (inl here) = go (cases_lt (m f.at) (m n))
    where
      go : (m f.at < m n) ⊎ (m n ≤ m f.at) → None (suc n) ⊎ First P m (suc n)
      go (inl lt) = inr (record {
        at = n;
        within = omega arith;
        holds = here;
        greatest = λ c h p. last n c h (λ l. omega (arith, f.greatest c l p)) (λ e. rw e (omega arith));
        earliest = λ c h p q. last n c h (λ l. absurd (omega (arith, f.greatest c l p))) (λ e. omega arith);
      })
      go (inr le) = inr (record {
        at = f.at;
        within = omega (arith, f.within);
        holds = f.holds;
        greatest = λ c h p. last n c h (λ l. f.greatest c l p) (λ e. rw e le);
        earliest = λ c h p q. last n c h (λ l. f.earliest c l p q) (λ e. omega (arith, f.within));
      })

  first_to : (n : ℕ) → None n ⊎ First P m n
  first_to zero = inl (λ c h p. omega arith)
  first_to (suc n) = more n (first_to n) (decide n)

  -- there is such a number if P holds of one below n
  first_below : (n c : ℕ) → c < n → P c → First P m n
  first_below n c h p = go (first_to n)
    where
      go : None n ⊎ First P m n → First P m n
      go (inl none) = absurd (none c h p)
      go (inr f) = f

module _ (t : ℕ → ℕ → Answer) (facts : StoreFacts t) where
  held_or_not : (c : ℕ) → Holds t c ⊎ (Holds t c → ⊥)
  held_or_not c = go (cases_Bool (counts (t 0 c)))
    where
      go : (counts (t 0 c) ≡ true) ⊎ (counts (t 0 c) ≡ false) → Holds t c ⊎ (Holds t c → ⊥)
      go (inl y) = inl y
      go (inr n) = inr (λ y. both_ways (counts (t 0 c)) n y)

  held_first : (n : ℕ) → ((c : ℕ) → Holds t c → c < n) → (m : ℕ → ℕ) (c : ℕ) → Holds t c → First (Holds t) m n
  held_first n b m c h = first_below (Holds t) held_or_not m n c (b c h) h

module _ (w : World) (fs : Facts w) where
  pub nearest_exists : (q : ℕ) → InDrawing w q → (a : ℕ) → a < 2 ^ 32 → (e : ℕ) × NearestTo w a e
  nearest_exists q h a lt =
      let b = bounds w.measure fs.measure in
      let f = held_first w.drawing fs.drawing (2 ^ 32) (λ c o. drawing_code w fs c o) (λ c. 2 ^ 40 - dist w a c) q h in
      let limit = λ (c : ℕ) (o : InDrawing w c). b.cell_limited a c lt (drawing_code w fs c o) in (
        f.at,
        record {
          held = f.holds;
          nearest = λ c o. omega (arith, f.greatest c (drawing_code w fs c o) o, limit c o, limit f.at f.holds);
          earliest = λ c o e. f.earliest c (drawing_code w fs c o) o (rw e refl);
        },
      )

  -- what no held cell betters is the distance
  pub strays_from : (a b : ℕ) → InFilm w a → NearestTo w a b
      → ((c e : ℕ) → InFilm w c → NearestTo w c e → (dist w c e ≤ dist w a b) × (dist w c e ≡ dist w a b → a ≤ c))
      → (d : ℕ) → d ≡ dist w a b → Strayed w d a b
  strays_from a b o near all d e = record {
    held = o;
    partner = near;
    amount = e;
    farthest = λ c h.
        let n = nearest_exists b near.held c (film_code w fs c h) in
        (n.0, n.1.held, omega (arith, (all c n.0 h n.1).0));
    earliest = λ c h least.
        let n = nearest_exists b near.held c (film_code w fs c h) in
        let x = all c n.0 h n.1 in
        let y = least n.0 n.1.held in
        x.1 (omega (arith, x.0));
  }

  pub strays_exists : (p q : ℕ) → InFilm w p → InDrawing w q → (d : ℕ) × (a : ℕ) × (b : ℕ) × Strayed w d a b
  strays_exists p q o h = go (held_first w.film fs.film (2 ^ 32) (λ c y. film_code w fs c y) far p o)
    where
      -- the distance of a cell of the board from the drawing
      near : (c : ℕ) → (c < 2 ^ 32) ⊎ (2 ^ 32 ≤ c) → ℕ
      near c (inl lt) = dist w c (nearest_exists q h c lt).0
      near c (inr ge) = 0

      far : ℕ → ℕ
      far c = near c (cases_lt c (2 ^ 32))

      same : (c e : ℕ) → InFilm w c → NearestTo w c e → (x : (c < 2 ^ 32) ⊎ (2 ^ 32 ≤ c)) → near c x ≡ dist w c e
      same c e y n (inl lt) =
          let m = nearest_exists q h c lt in
          omega (arith, n.nearest m.0 m.1.held, m.1.nearest e n.held)
      same c e y n (inr ge) = absurd (omega (arith, film_code w fs c y))

      go : First (Holds w.film) far (2 ^ 32) → (d : ℕ) × (a : ℕ) × (b : ℕ) × Strayed w d a b
      go f =
          let n = nearest_exists q h f.at f.within in
          let s = same f.at n.0 f.holds n.1 (cases_lt f.at (2 ^ 32)) in (
            dist w f.at n.0,
            f.at,
            n.0,
            strays_from f.at n.0 f.holds n.1
                (λ c e y m.
                let t = same c e y m (cases_lt c (2 ^ 32)) in
                let lt = film_code w fs c y in
                (omega (arith, f.greatest c lt y), λ z. f.earliest c lt y (t ∙ z ∙ sym s)))
                (dist w f.at n.0) refl,
          )

-- Counting the cells of a square by its quarters.
use Rattle.std.proofs.Common.{◌≡◌, ℕ, zero, suc, ◌+◌, ◌-◌, ◌*◌, ◌/◌, ◌%◌, ◌^◌, ◌<◌, ◌≤◌, Bool, true, false, cond, ◌&&◌, ◌||◌, eqb, ◌⊎◌, List, [], ◌∷◌, sym, refl, ap, ◌∙◌, ap₂, inl, inr, mul-le-mul_right, add-mul, pow-suc, div-one, arith}
use native.Mathlib.Nat.{pow-le-pow_right}
use Rattle.std.specs.List.{AllByRecursion}
use Rattle.std.proofs.ByRecursion.{All-weaker}
use Rattle.std.proofs.lemmas.Bool.{and_parts, cases_eq, cond-true, eq-eqb, false≢true, ne_eqb}
use Rattle.board.specs.Squares.{OnBoard}
use Rattle.board.proofs.Boards.{quarter_on_board}
use Rattle.store.specs.Exact.{occupied, on_board}
use Rattle.store.specs.ExactFacts.{decides_on_board}
use Rattle.tree.specs.Bitmaps.{Climbs}
use Rattle.tree.specs.Tallies.{count_in, tally_of}
use Rattle.tree.proofs.Totals.{total, total_none, total_more}
use Rattle.tree.proofs.Walks.{up_one}

total_four : (f : ℕ → ℕ) → total f 4 ≡ f 0 + f 1 + f 2 + f 3
unfolding total
total_four f = omega arith

-- one cell
abbrev mark : ℕ → ℕ → ℕ
mark x n = cond (eqb x n) 1 0

mark_same : (x n : ℕ) → x ≡ n → mark x n ≡ 1
mark_same x n e = ap (λ b. cond b 1 0) (eq-eqb x n e)

mark_other : (x n : ℕ) → (x ≡ n → ⊥) → mark x n ≡ 0
mark_other x n ne = ap (λ b. cond b 1 0) (ne_eqb x n ne)

mark-quarters : (x n : ℕ) → mark (x / 4) n ≡ mark x (4 * n + 0) + mark x (4 * n + 1) + mark x (4 * n + 2) + mark x (4 * n + 3)
mark-quarters x n = go (cases_eq (x / 4) n)
  where
    at : (k : ℕ) → k < 4 → x ≡ 4 * n + k → mark x (4 * n + 0) + mark x (4 * n + 1) + mark x (4 * n + 2) + mark x (4 * n + 3) ≡ 1
    at zero h e =
        omega (arith, mark_same x (4 * n + 0) e, mark_other x (4 * n + 1) (λ z. omega arith), mark_other x (4 * n + 2) (λ z. omega arith), mark_other x (4 * n + 3) (λ z. omega arith))
    at (suc zero) h e =
        omega (arith, mark_same x (4 * n + 1) e, mark_other x (4 * n + 0) (λ z. omega arith), mark_other x (4 * n + 2) (λ z. omega arith), mark_other x (4 * n + 3) (λ z. omega arith))
    at (suc (suc zero)) h e =
        omega (arith, mark_same x (4 * n + 2) e, mark_other x (4 * n + 0) (λ z. omega arith), mark_other x (4 * n + 1) (λ z. omega arith), mark_other x (4 * n + 3) (λ z. omega arith))
    at (suc (suc (suc zero))) h e =
        omega (arith, mark_same x (4 * n + 3) e, mark_other x (4 * n + 0) (λ z. omega arith), mark_other x (4 * n + 1) (λ z. omega arith), mark_other x (4 * n + 2) (λ z. omega arith))
    at (suc (suc (suc (suc k)))) h e = absurd (omega arith)

    go : (x / 4 ≡ n) ⊎ (x / 4 ≡ n → ⊥) → mark (x / 4) n ≡ mark x (4 * n + 0) + mark x (4 * n + 1) + mark x (4 * n + 2) + mark x (4 * n + 3)
    go (inl e) = mark_same (x / 4) n e ∙ sym (at (x % 4) (omega arith) (omega arith))
    go (inr ne) =
        let off : (k : ℕ) → k < 4 → mark x (4 * n + k) ≡ 0 = λ k h. mark_other x (4 * n + k) (λ z. ne (omega arith)) in
        omega (arith, mark_other (x / 4) n ne, off 0 (omega arith), off 1 (omega arith), off 2 (omega arith), off 3 (omega arith))

four_counts : (cs : List ℕ) (l n : ℕ) → count_in cs (suc l) n ≡ count_in cs l (4 * n + 0) + count_in cs l (4 * n + 1) + count_in cs l (4 * n + 2) + count_in cs l (4 * n + 3)
unfolding count_in
four_counts [] l n = refl
four_counts (c ∷ cs) l n =
    let m = mark-quarters (c / 4 ^ l) n in
    let u : mark (c / 4 ^ suc l) n ≡ mark (c / 4 ^ l / 4) n = ap (λ x. mark x n) (sym (up_one c l)) in
    omega (arith, m, u, four_counts cs l n)

-- a square has as many cells as its quarters together
pub count_quarters : (cs : List ℕ) (l n : ℕ) → total (λ k. count_in cs l (4 * n + k)) 4 ≡ count_in cs (suc l) n
count_quarters cs l n = total_four (λ k. count_in cs l (4 * n + k)) ∙ sym (four_counts cs l n)

pub count_none : (cs : List ℕ) (l n : ℕ) → occupied cs l n ≡ false → count_in cs l n ≡ 0
unfolding occupied count_in
count_none [] l n e = refl
count_none (c ∷ cs) l n e = go (eqb (c / 4 ^ l) n) (count_none cs l n) e
  where
    go : (b : Bool) → (occupied cs l n ≡ false → count_in cs l n ≡ 0) → (b || occupied cs l n) ≡ false → cond b 1 0 + count_in cs l n ≡ 0
    go true f z = absurd (false≢true (sym z))
    go false f z = let r = f z in omega arith

none_above : (cs : List ℕ) (n : ℕ) → AllByRecursion (λ c. n < c) cs → count_in cs 0 n ≡ 0
unfolding count_in
none_above [] n a = refl
none_above (c ∷ cs) n a =
    let d = div-one c in
    let m = mark_other (c / 1) n (λ z. omega (arith, a.0)) in
    omega (arith, m, none_above cs n a.1)

-- a cell that is held is one cell
pub count_cell : (cs : List ℕ) (n : ℕ) → Climbs cs → occupied cs 0 n ≡ true → count_in cs 0 n ≡ 1
unfolding occupied count_in
count_cell [] n climbs e = absurd (false≢true e)
count_cell (c ∷ cs) n climbs e = go (count_cell cs n climbs.1) (cases_eq (c / 1) n)
  where
    go : (occupied cs 0 n ≡ true → count_in cs 0 n ≡ 1) → (c / 1 ≡ n) ⊎ (c / 1 ≡ n → ⊥) → cond (eqb (c / 1) n) 1 0 + count_in cs 0 n ≡ 1
    go ih (inl z) =
        let d = div-one c in
        let r = none_above cs n (All-weaker (λ m. c < m) (λ m. n < m) (λ m h. omega arith) cs climbs.0) in
        omega (arith, mark_same (c / 1) n z, r)
    go ih (inr ne) =
        let f = ne_eqb (c / 1) n ne in
        let r = ih (sym (ap (λ b. b || occupied cs 0 n) f) ∙ e) in
        omega (arith, mark_other (c / 1) n ne, r)

-- ---- squares of the board

module _ (cs : List ℕ) (l n : ℕ) where
  pub tally_none : (on_board l n && occupied cs l n) ≡ false → 0 ≡ tally_of cs l n
  tally_none e = go (on_board l n) e
    where
      go : (b : Bool) → (b && occupied cs l n) ≡ false → 0 ≡ cond b (count_in cs l n) 0
      go true z = sym (count_none cs l n z)
      go false z = refl

  pub tally_on : OnBoard l n → tally_of cs l n ≡ count_in cs l n
  tally_on b = cond-true (on_board l n) (count_in cs l n) 0 ((decides_on_board l n).1 b)

  pub shown_on : (on_board l n && occupied cs l n) ≡ true → OnBoard l n
  shown_on e = (decides_on_board l n).0 (and_parts (on_board l n) (occupied cs l n) e).0

  pub tally_cell : l ≡ 0 → Climbs cs → (on_board l n && occupied cs l n) ≡ true → 1 ≡ tally_of cs l n
  tally_cell z climbs e =
      let held = (and_parts (on_board l n) (occupied cs l n) e).1 in
      let one = count_cell cs n climbs (ap (λ x. occupied cs x n) (sym z) ∙ held) in
      sym (tally_on (shown_on e) ∙ ap (λ x. count_in cs x n) z ∙ one)

  -- the sum over the first k quarters
  abbrev pub Summed : ℕ → ℕ → Type 0
  Summed k sum = (sum ≡ total (λ j. count_in cs (l - 1) (4 * n + j)) k) × (sum ≤ k * 4 ^ (l - 1))

  module _ (on : OnBoard l n) (high : 1 ≤ l) where
    pub summed_none : Summed 0 0
    summed_none = (sym (total_none (λ j. count_in cs (l - 1) (4 * n + j))), omega arith)

    pub summed_more : (k sum r m q : ℕ) → k < 4 → Summed k sum → m + 1 ≡ l → q ≡ 4 * n + k → r ≡ tally_of cs m q → r ≤ 4 ^ m → Summed (k + 1) (sum + r)
    summed_more k sum r m q h s e f is le =
        let d : m ≡ l - 1 = omega arith in
        let b = quarter_on_board l n k on high h in
        let c : r ≡ count_in cs (l - 1) (4 * n + k) = is ∙ ap₂ (tally_of cs) d f ∙ cond-true (on_board (l - 1) (4 * n + k)) (count_in cs (l - 1) (4 * n + k)) 0 ((decides_on_board (l - 1) (4 * n + k)).1 b) in
        (ap₂ (λ x y. x + y) s.0 c ∙ sym (total_more (λ j. count_in cs (l - 1) (4 * n + j)) k), omega (arith, s.1, le, ap (λ x. 4 ^ x) d, add-mul k 1 (4 ^ (l - 1))))

    pub summed_fits : (k sum r m : ℕ) → k < 4 → Summed k sum → m + 1 ≡ l → r ≤ 4 ^ m → sum + r < 2 ^ 64
    summed_fits k sum r m h s e le =
        let d : m ≡ l - 1 = omega arith in
        let p : 4 ^ (l - 1) ≤ 4 ^ 15 = pow-le-pow_right {n = 4} (omega arith) {i = l - 1} {j = 15} (omega (arith, on)) in
        let q : k * 4 ^ (l - 1) ≤ 4 * 4 ^ (l - 1) = mul-le-mul_right {m = k} {n = 4} (4 ^ (l - 1)) (omega arith) in
        omega (arith, s.1, ap (λ x. 4 ^ x) d, q, p)

    pub summed_all : (sum : ℕ) → Summed 4 sum → (sum ≡ tally_of cs l n) × (sum ≤ 4 ^ l)
    summed_all sum s =
        let e : suc (l - 1) ≡ l = omega arith in
        (s.0 ∙ count_quarters cs (l - 1) n ∙ ap (λ x. count_in cs x n) e ∙ sym (tally_on on), omega (arith, s.1, pow-suc 4 (l - 1), ap (λ x. 4 ^ x) e))

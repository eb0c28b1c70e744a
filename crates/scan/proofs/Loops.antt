-- What the loops of the scan keep true: the best pair so far, over the cells that each loop has met.
use Rattle.std.proofs.Common.{◌≡◌, ℕ, ◌+◌, ◌<◌, ◌≤◌, ◌⊎◌, List, [], ◌∷◌, length, get_or, IfSome, Some, None, Option, sym, refl, ap, ◌∙◌, subst, inl, inr, ⊎_elim, arith, MatchOption}
use Rattle.std.proofs.lemmas.Bool.{cases_eq, cases_lt}
use Rattle.std.proofs.lemmas.List.Kept.{AllPairs-from_increasing}
use Rattle.board.specs.Lists.{Rising, Among, Has}
use Rattle.board.specs.Strays.{Nearest, Strays, AtLeast, Within}
use Rattle.board.specs.Findings.{Finds, code_of}
use Rattle.board.specs.declared.finding.Finding.{Finding}
use Rattle.scan.specs.Pairs.{Worst}
use Rattle.scan.proofs.Rounds.{Takes}
use Rattle.std.specs.List.{Contains}

-- one of the first i + 1 is one of the first i, or the one at i
among_more : {P : ℕ → Type 0} (a : List ℕ) (i : ℕ) → ((c : ℕ) → Among a i c → P c) → P (get_or a i 0) → (c : ℕ) → Among a (i + 1) c → P c
among_more {P} a i before here c m =
    ⊎_elim (λ e. subst P (ap (λ k. get_or a k 0) (sym e) ∙ m.2) here) (λ ne. before c (m.0, omega (arith, m.1), m.2)) (cases_eq m.0 i)

among_last : (a : List ℕ) (i : ℕ) → Among a (i + 1) (get_or a i 0)
among_last a i = (i, omega arith, refl)

among_wider : (a : List ℕ) (i c : ℕ) → Among a i c → Among a (i + 1) c
among_wider a i c m = (m.0, omega (arith, m.1), m.2)

-- each code of the list that is not still to come has P
abbrev pub EachMet : List ℕ → List ℕ → (ℕ → Type 0) → Type 0
EachMet b coming P = (q : ℕ) → Has b q → Contains coming q ⊎ P q

-- one code more is met
each_met_more : {P Q : ℕ → Type 0} (b coming left : List ℕ) (x : ℕ) → Takes coming x left → EachMet b coming P → ((q : ℕ) → P q → Q q) → Q x → EachMet b left Q
each_met_more {Q = Q} b coming left x t each wider here q h =
    ⊎_elim (λ k. ⊎_elim (λ l. inl l) (λ e. inr (subst Q e here)) (t.others q k)) (λ p. inr (wider q p)) (each q h)

all_met : (b : List ℕ) (P : ℕ → Type 0) → EachMet b [] P → (q : ℕ) → Has b q → P q
all_met b P each q h = ⊎_elim (λ k. absurd (omega (arith, k.1))) (λ p. p) (each q h)

none_held : (b : List ℕ) → ((q : ℕ) → Has b q → ⊥) → length b ≡ 0
none_held [] f = refl
none_held (x ∷ b) f = absurd (f x (0, omega arith, refl))

module _ (dist : ℕ → ℕ → ℕ) where
  -- the finding has the distance of its pair, and its cell of the film is c
  abbrev pub IsPair : ℕ → Finding → Type 0
  IsPair c p = (p.distance ≡ dist c (code_of p.drawing)) × (code_of p.film ≡ c)

  -- the cell q is no nearer to c than the best pair's, nor as near and earlier
  abbrev pub Later : ℕ → Finding → ℕ → Type 0
  Later c p q = (dist c (code_of p.drawing) < dist c q) ⊎ ((dist c (code_of p.drawing) ≡ dist c q) × (code_of p.drawing ≤ q))

  -- what the inner loop knows of the cell c while some codes of the drawing are still to come
  abbrev pub Nearby : List ℕ → List ℕ → ℕ → Option Finding → Type 0
  Nearby b coming c None = (q : ℕ) → Has b q → Contains coming q
  Nearby b coming c (Some p) = Has b (code_of p.drawing) × IsPair c p × EachMet b coming (Later c p)

  -- none of the cells that were met is as near to c as low
  abbrev pub Past : List ℕ → List ℕ → ℕ → Option Finding → Type 0
  Past b coming c None = Unit {0}
  Past b coming c (Some p) = EachMet b coming (λ q. p.distance < dist c q)

  -- what the outer loop knows after i cells of a
  abbrev pub Low : List ℕ → List ℕ → ℕ → Option Finding → Type 0
  Low a b i None = (i ≡ 0) ⊎ (length b ≡ 0)
  Low a b i (Some p) = Finds dist (Among a i) (Has b) p

  -- ---- one cell of the drawing more

  -- the finding comes before the best so far
  abbrev pub IsNearer : Option Finding → Finding → Type 0
  IsNearer best f = IfSome best (λ p. (f.distance < p.distance) ⊎ ((f.distance ≡ p.distance) × (code_of f.drawing < code_of p.drawing)))

  later_than : (c : ℕ) (f p : Finding) → IsPair c f → IsPair c p → (f.distance < p.distance) ⊎ ((f.distance ≡ p.distance) × (code_of f.drawing < code_of p.drawing)) → (q : ℕ) → Later c p q → Later c f q
  later_than c f p m n (inl lt) q (inl l) = inl (omega (arith, m.0, n.0))
  later_than c f p m n (inl lt) q (inr l) = inl (omega (arith, m.0, n.0, l.0))
  later_than c f p m n (inr eq) q (inl l) = inl (omega (arith, m.0, n.0, eq.0))
  later_than c f p m n (inr eq) q (inr l) = inr (sym m.0 ∙ eq.0 ∙ n.0 ∙ l.0, omega (arith, eq.1, l.1))

  nearby_taken : (b coming left : List ℕ) (c x : ℕ) (f : Finding) (best : Option Finding) → Takes coming x left → Has b x → Nearby b coming c best → IsNearer best f → IsPair c f → code_of f.drawing ≡ x → Nearby b left c (Some f)
  nearby_taken b coming left c x f None t h n _ pair at =
      (rw at h, pair, each_met_more b coming left x t (λ q k. inl (n q k)) (λ q z. absurd z) (rw (← at) (inr (refl, omega arith))))
  nearby_taken b coming left c x f (Some p) t h n lt pair at =
      (rw at h, pair, each_met_more b coming left x t n.2 (later_than c f p pair n.1 lt) (rw (← at) (inr (refl, omega arith))))

  nearby_kept : (b coming left : List ℕ) (c x : ℕ) (f : Finding) (best : Option Finding) → Takes coming x left → Nearby b coming c best → (IsNearer best f → ⊥) → IsPair c f → code_of f.drawing ≡ x → Nearby b left c best
  nearby_kept b coming left c x f None t n later pair at = absurd (later tt)
  nearby_kept b coming left c x f (Some p) t n later pair at =
      let here : Later c p (code_of f.drawing) =
      ⊎_elim (λ lt. absurd (later (inl lt)))
      (λ ge. ⊎_elim (λ gt. inl (omega (arith, pair.0, n.1.0)))
      (λ le. let e : f.distance ≡ p.distance = omega arith in
      inr (sym n.1.0 ∙ sym e ∙ pair.0, ⊎_elim (λ lt. absurd (later (inr (e, lt)))) (λ g. g) (cases_lt (code_of f.drawing) (code_of p.drawing))))
      (cases_lt p.distance f.distance))
      (cases_lt f.distance p.distance) in
      (n.0, n.1, each_met_more b coming left x t n.2 (λ q k. k) (rw (← at) here))

  -- ---- low

  -- d is no farther than low
  abbrev pub IsWithin : Option Finding → ℕ → Type 0
  IsWithin low d = MatchOption low ⊥ (λ p. d ≤ p.distance)

  past_more : (b coming left : List ℕ) (c x d : ℕ) (low : Option Finding) → Takes coming x left → Past b coming c low → (IsWithin low d → ⊥) → d ≡ dist c x → Past b left c low
  past_more b coming left c x d None t _ beyond e = tt
  past_more b coming left c x d (Some p) t past beyond e =
      let lt : p.distance < d = ⊎_elim (λ lt. lt) (λ ge. absurd (beyond ge)) (cases_lt p.distance d) in
      each_met_more b coming left x t past (λ q k. k) (omega arith)

  past_none : (b coming : List ℕ) (c : ℕ) (low : Option Finding) → ((q : ℕ) → Has b q → Contains coming q) → Past b coming c low
  past_none b coming c None all = tt
  past_none b coming c (Some p) all = λ q h. inl (all q h)

  -- what the inner loop keeps true
  pub record Meeting (b coming : List ℕ) (c : ℕ) (low best : Option Finding) : Type 0 where
    pub of_drawing : (q : ℕ) → Contains coming q → Has b q
    pub nearby : Nearby b coming c best
    pub past : Past b coming c low

  pub meeting_none : (b coming : List ℕ) (c : ℕ) (low : Option Finding) → ((q : ℕ) → (Has b q → Contains coming q) × (Contains coming q → Has b q)) → Meeting b coming c low None
  meeting_none b coming c low all = record {
    of_drawing = λ q. (all q).1;
    nearby = λ q. (all q).0;
    past = past_none b coming c low (λ q. (all q).0);
  }

  pub meeting_taken : (b coming left : List ℕ) (c x : ℕ) (f : Finding) (low best : Option Finding) → Meeting b coming c low best → Takes coming x left → IsPair c f → code_of f.drawing ≡ x → (IsWithin low f.distance → ⊥) → IsNearer best f
      → Meeting b left c low (Some f)
  meeting_taken b coming left c x f low best m t pair at beyond nearer = record {
    of_drawing = λ q h. m.of_drawing q (t.kept q h);
    nearby = nearby_taken b coming left c x f best t (m.of_drawing x t.held) m.nearby nearer pair at;
    past = past_more b coming left c x f.distance low t m.past beyond (pair.0 ∙ ap (dist c) at);
  }

  pub meeting_kept : (b coming left : List ℕ) (c x : ℕ) (f : Finding) (low best : Option Finding) → Meeting b coming c low best → Takes coming x left → IsPair c f → code_of f.drawing ≡ x → (IsWithin low f.distance → ⊥) → (IsNearer best f → ⊥)
      → Meeting b left c low best
  meeting_kept b coming left c x f low best m t pair at beyond later = record {
    of_drawing = λ q h. m.of_drawing q (t.kept q h);
    nearby = nearby_kept b coming left c x f best t m.nearby later pair at;
    past = past_more b coming left c x f.distance low t m.past beyond (pair.0 ∙ ap (dist c) at);
  }

  -- ---- one cell of a more

  first_strays : (a : List ℕ) (B : ℕ → Type 0) (i p : ℕ) → i ≡ 0 → Nearest dist B (get_or a i 0) p
      → Strays dist (Among a (i + 1)) B (dist (get_or a i 0) p) (get_or a i 0) p
  first_strays a B i p z n = record {
    held = among_last a i;
    partner = n;
    amount = refl;
    farthest = among_more {P = Within dist B (dist (get_or a i 0) p)} a i (λ c m. absurd (omega (arith, m.1))) (p, n.held, omega arith);
    earliest = among_more {P = λ c. AtLeast dist B (dist (get_or a i 0) p) c → get_or a i 0 ≤ c} a i (λ c m _. absurd (omega (arith, m.1))) (λ _. omega arith);
  }

  -- the cell at i is farther from B than low
  farther_strays : (a : List ℕ) (B : ℕ → Type 0) (i d w q p : ℕ) → Strays dist (Among a i) B d w q → Nearest dist B (get_or a i 0) p → d < dist (get_or a i 0) p
      → Strays dist (Among a (i + 1)) B (dist (get_or a i 0) p) (get_or a i 0) p
  farther_strays a B i d w q p s n lt = record {
    held = among_last a i;
    partner = n;
    amount = refl;
    farthest = among_more {P = Within dist B (dist (get_or a i 0) p)} a i
        (λ c m. let t = s.farthest c m in (t.0, t.1, omega (arith, t.2))) (p, n.held, omega arith);
    earliest = among_more {P = λ c. AtLeast dist B (dist (get_or a i 0) p) c → get_or a i 0 ≤ c} a i
        (λ c m far. let t = s.farthest c m in absurd (omega (arith, t.2, far t.0 t.1))) (λ _. omega arith);
  }

  -- the cell at i has a cell of B that is no farther than low
  kept_strays : (a : List ℕ) (B : ℕ → Type 0) (i d w q : ℕ) → Rising a (length a) → i < length a → Strays dist (Among a i) B d w q → Within dist B d (get_or a i 0)
      → Strays dist (Among a (i + 1)) B d w q
  kept_strays a B i d w q rising h s near = record {
    held = among_wider a i w s.held;
    partner = s.partner;
    amount = s.amount;
    farthest = among_more {P = Within dist B d} a i s.farthest near;
    earliest =
        let m = s.held in
        let up = subst (λ x. x < get_or a i 0) m.2 (AllPairs-from_increasing a rising m.0 i 0 m.1 h) in
        among_more {P = λ c. AtLeast dist B d c → w ≤ c} a i s.earliest (λ _. omega arith);
  }

  pub low_kept : (a b : List ℕ) (i d q : ℕ) (low : Option Finding) → Rising a (length a) → i < length a → Has b q → Low a b i low → IsWithin low d → d ≡ dist (get_or a i 0) q
      → Low a b (i + 1) low
  low_kept a b i d q None rising h k s never e = absurd never
  low_kept a b i d q (Some p) rising h k s le e =
      kept_strays a (Has b) i p.distance (code_of p.film) (code_of p.drawing) rising h s (q, k, omega arith)

  -- the inner loop has met the whole drawing
  whole_nearest : (b : List ℕ) (c : ℕ) (p : Finding) → Nearby b [] c (Some p) → Nearest dist (Has b) c (code_of p.drawing)
  whole_nearest b c p n =
      let all = all_met b (Later c p) n.2 in
      record {
        held = n.0;
        nearest = λ e h. ⊎_elim (λ lt. omega arith) (λ eq. omega (arith, eq.0)) (all e h);
        earliest = λ e h s. ⊎_elim (λ lt. absurd (omega arith)) (λ eq. eq.1) (all e h);
      }

  -- the pair by its own fields
  named : (a b : List ℕ) (i c : ℕ) (p : Finding) → p.distance ≡ dist c (code_of p.drawing) → (code_of p.film) ≡ c
      → Strays dist (Among a (i + 1)) (Has b) (dist c (code_of p.drawing)) c (code_of p.drawing) → Low a b (i + 1) (Some p)
  named a b i c p d f t = rw (d, f) t

  pub low_taken : (a b : List ℕ) (i : ℕ) (low best : Option Finding) → Low a b i low → Meeting b [] (get_or a i 0) low best → Low a b (i + 1) best
  low_taken a b i low None s m = inr (none_held b (λ q h. let z = m.nearby q h in absurd (omega (arith, z.1))))
  low_taken a b i None (Some p) s m =
      let n = m.nearby in
      ⊎_elim
      (λ z. named a b i (get_or a i 0) p n.1.0 n.1.1 (first_strays a (Has b) i (code_of p.drawing) z (whole_nearest b (get_or a i 0) p n)))
      (λ z. let h = n.0 in absurd (omega (arith, h.1))) s
  low_taken a b i (Some w) (Some p) s m =
      let n = m.nearby in
      named a b i (get_or a i 0) p n.1.0 n.1.1
      (farther_strays a (Has b) i w.distance (code_of w.film) (code_of w.drawing) (code_of p.drawing) s (whole_nearest b (get_or a i 0) p n) (all_met b (λ q. w.distance < dist (get_or a i 0) q) m.past (code_of p.drawing) n.0))

  -- after the last cell of a
  pub low_all : (a b : List ℕ) (low : Option Finding) → Low a b (length a) low → Worst dist a b low
  low_all a b None s = s
  low_all a b (Some p) s = s

-- One distance and one pair at most, and the first of all pairs that show the distance.
use Rattle.std.proofs.Common.{◌≡◌, ℕ, ◌≤◌, sym, ◌∙◌, subst, inl, inr, ⊎_elim, arith}
use Rattle.std.proofs.lemmas.Bool.{cases_lt}
use Rattle.board.specs.Strays.{Strays, Shows, AtLeast, Within, PairOrder, StraysNamesOne}

module _ (dist : ℕ → ℕ → ℕ) (A B : ℕ → Type 0) where
  shown : (d a b : ℕ) → Strays dist A B d a b → Shows dist A B d a b
  shown d a b s = record {
    film = s.held;
    drawing = s.partner.held;
    amount = s.amount;
    nearest = λ e h. let k = s.amount in let n = s.partner.nearest e h in omega arith;
    farthest = s.farthest;
  }

  -- a cell that is at least d away from B, where every cell is within d', says that d is at most d'
  no_greater : (d d' c : ℕ) → AtLeast dist B d c → Within dist B d' c → d ≤ d'
  no_greater d d' c far near =
      let x = far near.0 near.1 in
      let y = near.2 in
      omega arith

  one_distance : (d a b d' c e : ℕ) → Shows dist A B d a b → Shows dist A B d' c e → d ≡ d'
  one_distance d a b d' c e s t =
      let u = no_greater d d' a s.nearest (t.farthest a s.film) in
      let v = no_greater d' d c t.nearest (s.farthest c t.film) in
      omega arith

  first : (d a b d' c e : ℕ) → Strays dist A B d a b → Shows dist A B d' c e → (d ≡ d') × PairOrder a b c e
  first d a b d' c e s t =
      let i = one_distance d a b d' c e (shown d a b s) t in
      let le = s.earliest c t.film (subst (λ x. AtLeast dist B x c) (sym i) t.nearest) in (
        i,
        ⊎_elim inl
            (λ h.
            let j : a ≡ c = omega arith in
            let near : dist a e ≡ dist a b = subst (λ x. dist x e ≡ dist a b) (sym j) (sym t.amount ∙ sym i ∙ s.amount) in
            inr (j, s.partner.earliest e t.drawing near))
            (cases_lt a c),
      )

  -- of two pairs that come no later than each other
  both_ways : (a b c e : ℕ) → PairOrder a b c e → PairOrder c e a b → (a ≡ c) × (b ≡ e)
  both_ways a b c e (inl p) (inl q) = absurd (omega arith)
  both_ways a b c e (inl p) (inr q) = absurd (omega (arith, q.0))
  both_ways a b c e (inr p) (inl q) = absurd (omega (arith, p.0))
  both_ways a b c e (inr p) (inr q) = (p.0, omega (arith, p.1, q.1))

  pub strays_names_one : StraysNamesOne dist A B
  strays_names_one = record {
    one = λ d a b d' a' b' s t.
        let p = first d a b d' a' b' s (shown d' a' b' t) in
        let q = first d' a' b' d a b t (shown d a b s) in
        let r = both_ways a b a' b' p.1 q.1 in
        (p.0, r.0, r.1);
    shown = shown;
    first = first;
  }

-- Later on a walk.
use Rattle.std.proofs.Common.{ℕ, refl, ◌∙◌}
use Rattle.search.specs.Visits.{Later}

module _ {V : Type 0} {floor since : V → ℕ} {done : V → ℕ → Type 0} {comes : V → V → Type 0} where
  pub later_same : (v : V) → Later floor since done comes v v
  later_same v = record { same = refl; begun = refl; keeps = λ q d. d; from = λ u h. h }

  pub later_onward : {u v w : V} → Later floor since done comes u v → Later floor since done comes v w → Later floor since done comes u w
  later_onward a b = record {
    same = b.same ∙ a.same;
    begun = b.begun ∙ a.begun;
    keeps = λ q d. b.keeps q (a.keeps q d);
    from = λ x h. b.from x (a.from x h);
  }

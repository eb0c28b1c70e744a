-- The hunt for a partner: what was found so far, and what is left to find.
use Rattle.std.specs.Prelude.{◌≡◌, ℕ, ◌<◌, ◌≤◌, Some, None, Option}
use Rattle.board.specs.Limits.{codes}
use Rattle.board.specs.Distances.{near, far}
use Rattle.store.specs.declared.store.Answer.{Answer}
use Rattle.store.specs.Stores.{Counts}
use Rattle.search.specs.declared.hunt.Partner.{Partner}
use Rattle.search.specs.declared.hunt.Aim.{Aim}
use Rattle.search.specs.declared.hunt.Hunt.{Hunt}
use Rattle.search.specs.Visits.{Later}

-- what was found does not come after a square with the far amount k and the number q
abbrev pub Settled : Option Partner → ℕ → ℕ → Type 0
Settled None k q = ⊥
Settled (Some p) k q = (p.key ≤ k) × (p.key ≡ k → p.number ≤ q)

-- what was found is nearer than the amount
abbrev pub Beyond : Option Partner → ℕ → Type 0
Beyond None k = ⊥
Beyond (Some p) k = p.key < k

-- t has the answers for the squares of one level, and far their far amounts
module _ (t : ℕ → Answer) (far : ℕ → ℕ) where
  -- nothing more is to be found in the square q
  abbrev pub Done : Option Partner → ℕ → Type 0
  Done best q = Counts (t q) → Settled best (far q) q

  -- what was found is a square that counts, with its far amount
  abbrev pub Found : Option Partner → Type 0
  Found None = Unit {0}
  Found (Some p) = Counts (t p.number) × (p.key ≡ far p.number)

module _ {B M : Type 0} (answers : B → ℕ → ℕ → Answer) (amount : M → ℕ → ℕ → ℕ) where
  -- the answers for the squares of the level that is aimed at, and their far amounts
  abbrev pub table : Aim B M → ℕ → Answer
  table a q = answers a.store.now a.of.level q

  abbrev pub far_from : Aim B M → ℕ → ℕ
  far_from a q = far (amount a.measure.now) a.of.level a.of.number a.of.level q

  -- the near amount of the square n of level k
  abbrev pub near_to : Aim B M → ℕ → ℕ → ℕ
  near_to a k n = near (amount a.measure.now) a.of.level a.of.number k n

  -- a hunt as a visitor: it does not count on cell order
  abbrev pub floor : Hunt B M → ℕ
  floor v = v.aim.of.level

  abbrev pub since : Hunt B M → ℕ
  since v = codes

  abbrev pub done : Hunt B M → ℕ → Type 0
  done v q = Done (table v.aim) (far_from v.aim) v.best q

  -- v has the aim of u, and what it found is there where that was so of u
  abbrev pub comes : Hunt B M → Hunt B M → Type 0
  comes u v = (v.aim ≡ u.aim) × (Found (table u.aim) (far_from u.aim) u.best → Found (table u.aim) (far_from u.aim) v.best)

  abbrev pub Hunted : Hunt B M → Hunt B M → Type 0
  Hunted v w = Later floor since done comes v w

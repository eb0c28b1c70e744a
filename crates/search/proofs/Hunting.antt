-- What a square that is met does to what was found.
use Rattle.std.proofs.Common.{◌≡◌, ℕ, ◌+◌, ◌-◌, ◌/◌, ◌^◌, ◌≤◌, Some, None, Option, refl, le_trans, add-zero, div-one, arith}
use Rattle.board.specs.Distances.{near, far, Bounds}
use Rattle.board.specs.Limits.{parts}
use Rattle.store.specs.declared.store.Answer.{Answer}
use Rattle.search.specs.declared.hunt.Partner.{Partner}
use Rattle.search.specs.declared.hunt.Hunt.{Hunt}
use Rattle.search.specs.Descents.{Under}
use Rattle.search.specs.Hunts.{Settled, Beyond, Hunted}

module _ (f : ℕ → ℕ → ℕ) (bounds : Bounds f) (l r : ℕ) where
  -- nothing that lies in a square is nearer to the square r than it
  pub near_under : (m n q : ℕ) → l ≤ m → Under l m n q → near f l r m n ≤ far f l r l q
  near_under m n q h u =
      let e : l + (m - l) ≡ m = omega arith in
      let i : q / parts ^ (m - l) ≡ n = u in
      le_trans (rw (add-zero l, div-one r, e, i) at (bounds.outer_near l r l q 0 (m - l))) (bounds.ordered l r l q)

  -- where a square is beyond what was found, so is what lies in it
  pub beyond_under : (best : Option Partner) (m n q : ℕ) → l ≤ m → Beyond best (near f l r m n) → Under l m n q → Settled best (far f l r l q) q
  beyond_under None m n q h z u = z
  beyond_under (Some p) m n q h z u = let k = near_under m n q h u in (omega arith, λ e. absurd (omega arith))

pub beyond_more : (best : Option Partner) (a b : ℕ) → a ≤ b → Beyond best a → Beyond best b
beyond_more None a b h k = k
beyond_more (Some p) a b h k = omega arith

-- the hunt goes on for the same square
pub same_aim : {B M : Type 0} (answers : B → ℕ → ℕ → Answer) (amount : M → ℕ → ℕ → ℕ) (v : Hunt B M) {w : Hunt B M} → Hunted answers amount v w → w.aim ≡ v.aim
same_aim answers amount v h = (h.from v (refl, λ f. f)).0

-- A visitor on a walk in depth: where the walk goes down to, what is done, and what becomes of the visitor.
use Rattle.std.specs.Prelude.{◌≡◌, ℕ, ◌≤◌, Bool, false}
use Rattle.board.specs.Squares.{OnBoard}
use Rattle.board.specs.declared.square.Square.{Square}
use Rattle.search.specs.Descents.{Under, Before}

module _ {V : Type 0} (floor since : V → ℕ) (done : V → ℕ → Type 0) where
  -- the walk comes to s in cell order: what begins before s, from `since` on, is done
  pub record Reached (v : V) (s : Square) : Type 0 where
    pub board : OnBoard s.level s.number
    pub above : floor v ≤ s.level
    pub in_order : (q : ℕ) → since v ≤ q → Before (floor v) q s → done v q

  module _ (comes : V → V → Type 0) where
    -- w is v later on the walk: it goes down to the same level, what was done stays done, and it comes from where v comes from
    pub record Later (v w : V) : Type 0 where
      pub same : floor w ≡ floor v
      pub begun : since w ≡ since v
      pub keeps : (q : ℕ) → done v q → done w q
      pub from : (u : V) → comes u v → comes u w

    -- v met s and became w; where it does not go on into the quarters, all that lies in s is done
    pub record Met (v : V) (s : Square) (goes_on : Bool) (w : V) : Type 0 where
      pub later : Later v w
      pub done_below : goes_on ≡ false → (q : ℕ) → Under (floor v) s.level s.number q → done w q

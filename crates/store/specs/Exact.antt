-- Exact stores: a square of the board counts where it shares a cell with the set held, and is empty elsewhere.
use Rattle.std.specs.Prelude.{ℕ, ◌-◌, ◌/◌, ◌^◌, ◌<◌, Bool, false, cond, ◌&&◌, ◌||◌, List, [], ◌∷◌, ◌==◌, ◌≢◌, nat_le, nat_lt}
use Rattle.board.specs.Limits.{top, parts, codes}
use Rattle.board.specs.Squares.{OnBoard, Inside}
use Rattle.store.specs.declared.store.Answer.{Answer}
use Rattle.store.specs.declared.store.Answer.TheVariants.{Empty, Occupied, Unknown}
use Rattle.store.specs.Stores.{Counts, Holds}

-- some cell of the set P lies in the square n of level l
abbrev pub Shares : (ℕ → Type 0) → ℕ → ℕ → Type 0
Shares P l n = (c : ℕ) × P c × Inside l n c

-- the store with the table t holds the cells of the board that P has, and no others
pub record HoldsSet (P : ℕ → Type 0) (t : ℕ → ℕ → Answer) : Type 0 where
  pub all : (c : ℕ) → c < codes → P c → Holds t c
  pub only : (c : ℕ) → Holds t c → P c

-- the table t knows the set P at every square
pub record Exactly (P : ℕ → Type 0) (t : ℕ → ℕ → Answer) : Type 0 where
  pub shared : (l n : ℕ) → OnBoard l n → Shares P l n → Counts (t l n)
  pub shown : (l n : ℕ) → Counts (t l n) → OnBoard l n × Shares P l n
  pub sure : (l n : ℕ) → t l n ≢ Unknown

-- the test of OnBoard
abbrev pub on_board : ℕ → ℕ → Bool
on_board l n = nat_le l top && nat_lt n (parts ^ (top - l))

-- occupied where the square is on the board and passes a test, else empty
abbrev pub tested : (ℕ → ℕ → Bool) → ℕ → ℕ → Answer
tested test l n = cond (on_board l n && test l n) Occupied Empty

-- some code of the list lies in the square n of level l
unfoldable pub occupied : List ℕ → ℕ → ℕ → Bool
occupied [] l n = false
occupied (c ∷ cs) l n = c / parts ^ l == n || occupied cs l n

-- the table of a list of codes
abbrev pub exact : List ℕ → ℕ → ℕ → Answer
exact cs = tested (occupied cs)

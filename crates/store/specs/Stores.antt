-- What a store says of squares, by their level and number, and what every store owes.
use Rattle.std.specs.Prelude.{◌≡◌, ℕ, ◌+◌, ◌*◌, ◌<◌, Bool, true, false, ◌≢◌}
use Rattle.board.specs.Limits.{top, parts}
use Rattle.board.specs.Squares.{OnBoard}
use Rattle.store.specs.declared.store.Answer.{Answer}
use Rattle.store.specs.declared.store.Answer.TheVariants.{Empty, Occupied, Unknown}

-- an answer that says that the square holds a cell: such squares count for keys
abbrev pub counts : Answer → Bool
counts Empty = false
counts Occupied = true
counts Unknown = false

abbrev pub Counts : Answer → Type 0
Counts r = counts r ≡ true

-- the store with the table t holds the cell c
abbrev pub Holds : (ℕ → ℕ → Answer) → ℕ → Type 0
Holds t c = Counts (t 0 c)

pub record StoreFacts (t : ℕ → ℕ → Answer) : Type 0 where
  -- a cell is never unknown
  pub cell_known : (n : ℕ) → t 0 n ≢ Unknown
  -- the quarters of an empty square are empty
  pub empty_quarters : (l n k : ℕ) → l < top → k < parts → t (l + 1) n ≡ Empty → t l (parts * n + k) ≡ Empty
  -- a square that counts has a quarter that does
  pub counted_quarter : (l n : ℕ) → l < top → Counts (t (l + 1) n) → (k : ℕ) × (k < parts) × Counts (t l (parts * n + k))
  -- what is not on the board is empty
  pub off_board : (l n : ℕ) → (OnBoard l n → ⊥) → t l n ≡ Empty

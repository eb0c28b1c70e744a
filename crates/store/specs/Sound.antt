-- What follows from the facts of a store, for every store.
use Rattle.std.specs.Prelude.{◌≡◌, ℕ, ◌<◌, ◌≤◌, ◌≢◌}
use Rattle.board.specs.Limits.{top, codes}
use Rattle.board.specs.Squares.{OnBoard, Inside}
use Rattle.store.specs.declared.store.Answer.{Answer}
use Rattle.store.specs.declared.store.Answer.TheVariants.{Empty}
use Rattle.store.specs.Stores.{Counts, Holds}

-- an empty square holds no cell; a level above the board's has no squares, so it is left out
abbrev pub EmptyHoldsNone : (ℕ → ℕ → Answer) → Type 0
EmptyHoldsNone t = (l n c : ℕ) → l ≤ top → t l n ≡ Empty → Inside l n c → Holds t c → ⊥

-- a square that counts holds a cell
abbrev pub CountedHoldsACell : (ℕ → ℕ → Answer) → Type 0
CountedHoldsACell t = (l n : ℕ) → Counts (t l n) → (c : ℕ) × Inside l n c × Holds t c

-- a square that holds a cell is not empty
abbrev pub HolderNotEmpty : (ℕ → ℕ → Answer) → Type 0
HolderNotEmpty t = (l n : ℕ) → l ≤ top → (c : ℕ) × Inside l n c × Holds t c → t l n ≢ Empty

-- what is held is on the board
abbrev pub HeldOnBoard : (ℕ → ℕ → Answer) → Type 0
HeldOnBoard t = (c : ℕ) → Holds t c → c < codes

-- every cell lies in exactly one square of each level, and that one is on the board
abbrev pub OneSquareOfEachLevel : Type 0
OneSquareOfEachLevel = (l c : ℕ) → l ≤ top → c < codes → (n : ℕ) × OnBoard l n × Inside l n c × ((m : ℕ) → Inside l m c → m ≡ n)

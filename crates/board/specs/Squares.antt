-- Squares of the board, by level and number.
use Rattle.std.specs.Prelude.{◌≡◌, ℕ, ◌-◌, ◌/◌, ◌^◌, ◌<◌, ◌≤◌}
use Rattle.board.specs.Limits.{top, parts}
use Rattle.board.specs.declared.square.Square.{Square}

-- the square n of level l is on the board
abbrev pub OnBoard : ℕ → ℕ → Type 0
OnBoard l n = (l ≤ top) × (n < parts ^ (top - l))

-- the cell with the code c is one of the square n of level l
abbrev pub Inside : ℕ → ℕ → ℕ → Type 0
Inside l n c = c / parts ^ l ≡ n

-- s is on the board and larger than a cell, and k numbers one of its quarters
abbrev pub HasQuarter : Square → ℕ → Type 0
HasQuarter s k = OnBoard s.level s.number × (1 ≤ s.level) × (k < parts)

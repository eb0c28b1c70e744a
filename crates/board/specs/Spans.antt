-- What a square covers along an axis, and the offsets between two such spans.
-- Ends past the edge of the board count as the edge, 65,535: no square of the board has one.
use Rattle.std.specs.Prelude.{◌≡◌, ℕ, ◌+◌, ◌-◌, ◌*◌, ◌^◌, ◌≤◌, min, max}
use Rattle.board.specs.Limits.{edge}
use Rattle.board.specs.Morton.{x_of, y_of}
use Rattle.board.specs.Squares.{OnBoard, Inside}

-- of the square of level l at the place p of its axis: the first column or row, and the last
unfoldable pub first : ℕ → ℕ → ℕ
first l p = min (p * 2 ^ l) edge

unfoldable pub last : ℕ → ℕ → ℕ
last l p = min (p * 2 ^ l + (2 ^ l - 1)) edge

-- between the span from a to b and the one from c to d: the least step, and the greatest
unfoldable pub least : ℕ → ℕ → ℕ → ℕ → ℕ
least a b c d = (c - b) + (a - d)

unfoldable pub greatest : ℕ → ℕ → ℕ → ℕ → ℕ
greatest a b c d = max (b - c) (d - a)

-- the step between two places
unfoldable pub gap : ℕ → ℕ → ℕ
gap p q = (p - q) + (q - p)

-- the cell c lies in the columns and the rows of the square n of level l
abbrev pub Lies : ℕ → ℕ → ℕ → Type 0
Lies l n c =
    (x_of n * 2 ^ l ≤ x_of c) × (x_of c ≤ x_of n * 2 ^ l + (2 ^ l - 1)) × (y_of n * 2 ^ l ≤ y_of c) × (y_of c ≤ y_of n * 2 ^ l + (2 ^ l - 1))

-- A square is a block of cells; on the board no end is cut off.
pub record SquaresAreBlocks : Type 0 where
  pub inside : (l n c : ℕ) → Inside l n c → Lies l n c
  pub only : (l n c : ℕ) → Lies l n c → Inside l n c
  pub west : (l n : ℕ) → OnBoard l n → first l (x_of n) ≡ x_of n * 2 ^ l
  pub east : (l n : ℕ) → OnBoard l n → last l (x_of n) ≡ x_of n * 2 ^ l + (2 ^ l - 1)
  pub south : (l n : ℕ) → OnBoard l n → first l (y_of n) ≡ y_of n * 2 ^ l
  pub north : (l n : ℕ) → OnBoard l n → last l (y_of n) ≡ y_of n * 2 ^ l + (2 ^ l - 1)

-- The cells of a square of the board, by its columns and rows: what the proofs of stores that go by columns and rows build on.
use Rattle.std.specs.Prelude.{ℕ, ◌≤◌}
use Rattle.std.proofs.Common.{arith}
use Rattle.board.specs.Morton.{x_of, y_of, code}
use Rattle.board.specs.Spans.{first, last}
use Rattle.board.specs.Squares.{OnBoard, Inside}
use Rattle.board.proofs.Blocks.{squares_are_blocks}
use Rattle.board.specs.CodeFacts.Codes.{codes_are_exact}

module _ (l n : ℕ) (b : OnBoard l n) where
  pub columns_ordered : first l (x_of n) ≤ last l (x_of n)
  columns_ordered = let w = squares_are_blocks.west l n b in let e = squares_are_blocks.east l n b in omega arith

  pub rows_ordered : first l (y_of n) ≤ last l (y_of n)
  rows_ordered = let w = squares_are_blocks.south l n b in let e = squares_are_blocks.north l n b in omega arith

  -- a column and a row of the square make a cell of it
  pub cell_of : (x y : ℕ) → first l (x_of n) ≤ x → x ≤ last l (x_of n) → first l (y_of n) ≤ y → y ≤ last l (y_of n) → Inside l n (code x y)
  cell_of x y p q r s =
      let west = squares_are_blocks.west l n b in
      let east = squares_are_blocks.east l n b in
      let south = squares_are_blocks.south l n b in
      let north = squares_are_blocks.north l n b in
      let column = codes_are_exact.column x y in
      let row = codes_are_exact.row x y in
      squares_are_blocks.only l n (code x y) (omega arith, omega arith, omega arith, omega arith)

  -- a cell of the square lies in its columns and rows
  pub ends_of : (c : ℕ) → Inside l n c → (first l (x_of n) ≤ x_of c) × (x_of c ≤ last l (x_of n)) × (first l (y_of n) ≤ y_of c) × (y_of c ≤ last l (y_of n))
  ends_of c i =
      let west = squares_are_blocks.west l n b in
      let east = squares_are_blocks.east l n b in
      let south = squares_are_blocks.south l n b in
      let north = squares_are_blocks.north l n b in
      let h = squares_are_blocks.inside l n c i in
      (omega arith, omega arith, omega arith, omega arith)

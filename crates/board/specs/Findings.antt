-- A finding, as the distance and the pair that it names.
use Rattle.std.specs.Prelude.{ℕ}
use Rattle.board.specs.Morton.{code}
use Rattle.board.specs.Strays.{Strays}
use Rattle.board.specs.declared.cell.Cell.{Cell}
use Rattle.board.specs.declared.finding.Finding.{Finding}

-- the code of a cell
abbrev pub code_of : Cell → ℕ
code_of c = code c.x c.y

-- the finding is the distance from A to B with its pair
abbrev pub Finds : (ℕ → ℕ → ℕ) → (ℕ → Type 0) → (ℕ → Type 0) → Finding → Type 0
Finds dist A B f = Strays dist A B f.distance (code_of f.film) (code_of f.drawing)

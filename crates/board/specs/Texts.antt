-- What cells, findings and refusals print: numbers with single spaces between them.
use Rattle.std.specs.Prelude.{ℕ, List, ◌∷◌, ◌++◌, decimal}

-- two numbers: of a cell the column and the row, of a refusal the number and the place
abbrev pub pair_text : ℕ → ℕ → List ℕ
pair_text x y = decimal x ++ 32 ∷ decimal y

abbrev pub numbered_text : ℕ → ℕ → List ℕ
numbered_text number place = pair_text number place

-- a distance, and the columns and rows of two cells
abbrev pub finding_text : ℕ → ℕ → ℕ → ℕ → ℕ → List ℕ
finding_text d x y u v = decimal d ++ 32 ∷ (pair_text x y ++ 32 ∷ pair_text u v)

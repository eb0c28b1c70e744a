-- The cell that a code stands for.
use Rattle.std.proofs.Common.{◌≡◌, ℕ, ◌∙◌, ap₂}
use Rattle.board.specs.Findings.{code_of}
use Rattle.board.specs.Morton.{code, x_of, y_of}
use Rattle.board.specs.declared.cell.Cell.{Cell}
use Rattle.board.specs.CodeFacts.Codes.{back}

-- it has that code
pub coded : (n : ℕ) (c : Cell) → c.x ≡ x_of n → c.y ≡ y_of n → code_of c ≡ n
coded n c x y = ap₂ code x y ∙ back n

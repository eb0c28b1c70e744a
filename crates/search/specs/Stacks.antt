-- What a stack of squares holds.
use Rattle.std.specs.Prelude.{ℕ, ◌+◌, ◌-◌, ◌*◌, List, reverse}
use Rattle.arrayvec.specs.ArrayVec.{ArrayVec}
use Rattle.board.specs.Limits.{top, parts}
use Rattle.board.specs.declared.square.Square.{Square}
use Rattle.search.specs.Descents.{quarter}

-- the places of a stack
abbrev pub places : ℕ
places = (parts - 1) * top + 1

-- the squares on the stack, the last pushed first
abbrev pub held : ArrayVec Square → List Square
held s = reverse s.items

-- the quarter that comes j-th from the last
abbrev pub from_last : Square → ℕ → Square
from_last s j = quarter s (parts - 1 - j)

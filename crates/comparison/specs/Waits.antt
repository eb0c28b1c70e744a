-- What waits in a comparison.
use Rattle.board.specs.Squares.{OnBoard}
use Rattle.comparison.specs.declared.suspect.Suspect.{Suspect}

-- a square of the board
abbrev pub On : Suspect → Type 0
On s = OnBoard s.square.level s.square.number

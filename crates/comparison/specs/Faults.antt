-- The number and the place of each refusal of a comparison.
use Rattle.std.specs.Prelude.{ℕ}
use Rattle.comparison.specs.declared.fault.Fault.{Fault}
use Rattle.comparison.specs.declared.fault.Fault.TheVariants.{NoFilmCell, NoDrawingCell, NoSuspectPlace, NoNeighbourPlace, NotHeld, NothingWaits, NeverBegun, Waits, StackFull}

abbrev pub fault_numbered : Fault → ℕ × ℕ
fault_numbered NoFilmCell = (11, 0)
fault_numbered NoDrawingCell = (12, 0)
fault_numbered NoSuspectPlace = (13, 0)
fault_numbered NoNeighbourPlace = (13, 1)
fault_numbered NotHeld = (15, 0)
fault_numbered NothingWaits = (16, 0)
fault_numbered NeverBegun = (16, 0)
fault_numbered (Waits n) = (17, n)
fault_numbered StackFull = (18, 0)

-- Which lists a scan accepts, and why it refuses the others.
use Rattle.std.specs.Prelude.{◌≡◌, ℕ, ◌<◌, ◌⊎◌, List, length}
use Rattle.board.specs.Lists.{Rises, ListRefused, list_numbered}
use Rattle.board.specs.declared.side.Side.{Side}
use Rattle.board.specs.declared.side.Side.TheVariants.{Film, Drawing}
use Rattle.scan.specs.declared.fault.ScanFault.{ScanFault}
use Rattle.scan.specs.declared.fault.ScanFault.TheVariants.{List as OfList, NoCell}

-- the number and the place of each fault
abbrev pub scan_numbered : ScanFault → ℕ × ℕ
scan_numbered (OfList s f) = list_numbered f
scan_numbered (NoCell Film) = (11, 0)
scan_numbered (NoCell Drawing) = (12, 0)

-- the side of each fault
abbrev pub scan_side : ScanFault → Side
scan_side (OfList s f) = s
scan_side (NoCell s) = s

-- lists that are accepted: both are in order, and neither is empty
pub record Scanned (a b : List ℕ) : Type 0 where
  pub film_rises : Rises a
  pub drawing_rises : Rises b
  pub film_cell : 0 < length a
  pub drawing_cell : 0 < length b

-- what the lists are where the scan is refused for this side, with this number and place
abbrev pub ScanRefused : List ℕ → List ℕ → Side → ℕ × ℕ → Type 0
ScanRefused a b Film f = ListRefused a f ⊎ (Rises a × Rises b × (length a ≡ 0) × (f ≡ (11, 0)))
ScanRefused a b Drawing f = (Rises a × ListRefused b f) ⊎ (Rises a × Rises b × (0 < length a) × (length b ≡ 0) × (f ≡ (12, 0)))

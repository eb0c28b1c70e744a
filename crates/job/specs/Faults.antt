-- The faults of a job: their part, number and place.
use Rattle.std.specs.Prelude.{ℕ, Some, None, Option}
use Rattle.board.specs.Lists.{list_numbered}
use Rattle.board.specs.declared.side.Side.{Side}
use Rattle.scan.specs.Faults.{scan_numbered}
use Rattle.scan.specs.declared.fault.ScanFault.{ScanFault}
use Rattle.scan.specs.declared.fault.ScanFault.TheVariants.{List as OfList, NoCell}
use Rattle.job.specs.Records.{records_numbered}
use Rattle.job.specs.declared.failure.Failure.{Failure}
use Rattle.job.specs.declared.failure.Failure.TheVariants.{Refused, NoMemory}
use Rattle.job.specs.declared.fault.PartFault.{PartFault}
use Rattle.job.specs.declared.fault.PartFault.TheVariants.{Records, List as InList, Comparison}
use Rattle.job.specs.declared.fault.JobFault.{JobFault}

-- the parts of a job that can be refused
pub data Part : Type 0 where
  records_part : Part
  list_part : Part
  comparison_part : Part

abbrev pub part_of : PartFault → Part
part_of (Records f) = records_part
part_of (InList f) = list_part
part_of (Comparison f) = comparison_part

-- the number and the place of each fault
abbrev pub part_numbered : PartFault → ℕ × ℕ
part_numbered (Records f) = records_numbered f
part_numbered (InList f) = list_numbered f
part_numbered (Comparison f) = scan_numbered f

abbrev pub job_numbered : JobFault → ℕ × ℕ
job_numbered f = part_numbered f.fault

-- the side that a fault of the comparison is about: the one that holds no cell
abbrev pub side_of : ScanFault → Option Side
side_of (OfList s f) = None
side_of (NoCell s) = Some s

-- the failure of a part, with the side that its fault is about
abbrev pub placed : Side → Failure PartFault → Failure JobFault
placed side (Refused f) = Refused (record { side = Some side; fault = f })
placed side NoMemory = NoMemory

use Rattle.std.proofs.Common.{append_assoc}
use Rattle.job.proofs.line.line.Goals as goal

pub returns-in-Ok : goal.returns-in-Ok
returns-in-Ok c =
    record { bytes_of_the_line = rw c.in-Ok.is (simp append_assoc at c.format.ensures.ok) }

pub returns-in-Err : goal.returns-in-Err
returns-in-Err c =
    record { bytes_of_the_line = rw c.in-Err.is (simp append_assoc at c.format-in-Err.ensures.ok) }

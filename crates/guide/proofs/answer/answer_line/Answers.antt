use Rattle.std.proofs.Common.{append_assoc}
use Rattle.guide.proofs.answer.answer_line.Goals as goal

pub returns-in-Answered : goal.returns-in-Answered
returns-in-Answered c =
    record { bytes_of_the_answer = rw c.in-Answered.is (simp append_assoc at c.format.ensures.ok) }

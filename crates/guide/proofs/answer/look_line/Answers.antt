use Rattle.std.proofs.Common.{append_assoc}
use Rattle.guide.proofs.answer.look_line.Goals as goal

pub returns : goal.returns
returns c = simp append_assoc (simp append_assoc at c.format.ensures.ok)

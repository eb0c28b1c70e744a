use Rattle.std.proofs.Common.{append_assoc}
use Rattle.guide.proofs.answer.refusal_line.Goals as goal

pub returns : goal.returns
returns c =
    let numbered = c.numbered-refused.ensures in
    simp (append_assoc, numbered.number_of_case, numbered.place_of_case) at c.format.ensures.ok

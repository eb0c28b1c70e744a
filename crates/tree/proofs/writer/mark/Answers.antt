use Rattle.std.proofs.Common.{◌<◌, sym, subst}
use Rattle.tree.proofs.Passing.{mark_is, mark_small}
use Rattle.tree.proofs.writer.mark.Goals as goal

pub returns-clause-quarter : goal.returns-clause-quarter
returns-clause-quarter c = mark_is c.args.code c.args.level

pub returns-clause-four_bits : goal.returns-clause-four_bits
returns-clause-four_bits c = subst (λ m. m < 16) (sym (mark_is c.args.code c.args.level)) (mark_small c.args.code c.args.level)

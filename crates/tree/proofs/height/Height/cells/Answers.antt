use Rattle.std.proofs.Common.{◌*◌, ◌∙◌, arith}
use Rattle.std.proofs.lemmas.Nat.{one_shl}
use Rattle.tree.proofs.Standing.{two_four}
use Rattle.tree.proofs.height.Height.cells.Goals as goal

pub returns : goal.returns
returns c = let h = c.args.self.levels in one_shl (2 * h) 64 (omega (arith, c.args.self.in_range)) ∙ two_four h

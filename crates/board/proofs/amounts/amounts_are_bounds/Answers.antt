use Rattle.board.proofs.Bounded.{bounds}
use Rattle.board.proofs.amounts.amounts_are_bounds.Goals as goal

pub returns : goal.returns
returns g c = record { bounds = bounds (g.M.Measure.amount c.args._m.now) (g.M.Measure.laws c.args._m.now) }

use Rattle.comparison.specs.Comparisons.{weighed}
use Rattle.comparison.proofs.Finishing.{Marching}
use Rattle.comparison.proofs.comparison.Comparison.finish.Given as goal

abbrev pub invariant-loop-steps : goal.invariant-loop-steps
invariant-loop-steps g l = Marching g.A.Store.answers g.B.Store.answers g.M.Measure.amount l.initial.self l.steps l.self

abbrev pub decreases-loop-steps : goal.decreases-loop-steps
decreases-loop-steps g l = weighed l.self

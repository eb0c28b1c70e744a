use Rattle.std.proofs.Common.{take, vec_items}
use Rattle.comparison.proofs.Replaying.{Going}
use Rattle.comparison.proofs.comparison.Comparison.replay.Given as goal

abbrev pub invariant-loop-call : goal.invariant-loop-call
invariant-loop-call g l = Going g.A.Store.answers g.B.Store.answers g.M.Measure.amount l.initial.self (take l.call-index l.calls) (vec_items l.outcomes) l.self

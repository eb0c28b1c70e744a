use Rattle.std.proofs.Common.{sum_by}
use Rattle.search.specs.Stacks.{held}
use Rattle.search.specs.Offers.{weight}
use Rattle.search.proofs.Walks.{Walking}
use Rattle.search.proofs.walk.walk.Given as goal

abbrev pub invariant-loop-t : goal.invariant-loop-t
invariant-loop-t g l = Walking g.V.Visitor.floor g.V.Visitor.since g.V.Visitor.done g.V.Visitor.comes l.initial.visitor l.visitor l.fn.s (held l.stack)

abbrev pub decreases-loop-t : goal.decreases-loop-t
decreases-loop-t g l = sum_by weight (held l.stack)

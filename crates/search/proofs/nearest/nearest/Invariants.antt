use Rattle.std.proofs.Common.{◌≡◌, sum_by}
use Rattle.search.specs.Hunts.{Hunted, near_to, done}
use Rattle.search.specs.Offers.{weight}
use Rattle.search.specs.WaitingLists.{waiting, room}
use Rattle.search.proofs.Searching.{Waits}
use Rattle.search.proofs.nearest.nearest.Given as goal

abbrev pub invariant-loop-next : goal.invariant-loop-next
invariant-loop-next g l =
    Hunted g.B.Store.answers g.M.Measure.amount l.initial.hunt l.hunt
    × Waits l.initial.hunt.aim.of.level (near_to g.B.Store.answers g.M.Measure.amount l.initial.hunt.aim) (done g.B.Store.answers g.M.Measure.amount l.hunt) l.neighbours
    × (room l.neighbours ≡ room l.initial.neighbours)

abbrev pub decreases-loop-next : goal.decreases-loop-next
decreases-loop-next g l = sum_by (λ x. weight x.square) (waiting l.neighbours)

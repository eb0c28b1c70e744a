use Rattle.std.proofs.Common.{[]}
use Rattle.search.specs.Descents.{quarter}
use Rattle.search.specs.Hunts.{Hunted, near_to, done}
use Rattle.search.specs.Offers.{Offered}
use Rattle.search.specs.Piles.{piled}
use Rattle.search.proofs.nearest.spread.Given as goal

abbrev pub invariant-loop-k : goal.invariant-loop-k
invariant-loop-k g l =
    Hunted g.B.Store.answers g.M.Measure.amount l.initial.hunt l.hunt
    × Offered l.initial.hunt.aim.of.level (near_to g.B.Store.answers g.M.Measure.amount l.initial.hunt.aim) (done g.B.Store.answers g.M.Measure.amount l.hunt) (piled (quarter l.s) l.k []) l.initial.list l.list

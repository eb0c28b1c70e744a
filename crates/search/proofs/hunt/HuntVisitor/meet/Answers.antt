use Rattle.std.proofs.Common.{subst}
use Rattle.board.specs.Distances.{near}
use Rattle.board.proofs.Bounded.{bounds}
use Rattle.search.specs.Hunts.{Beyond}
use Rattle.search.proofs.Hunting.{beyond_under}
use Rattle.search.proofs.Laters.{later_same}
use Rattle.search.proofs.hunt.HuntVisitor.meet.Goals as goal

pub returns-else-not-beyond-clause-met : goal.returns-else-not-beyond-clause-met
returns-else-not-beyond-clause-met g c = λ r.
    let v = c.args.self.now in
    let s = c.args.s in
    let of = v.aim.of in
    let m = v.aim.measure.now in
    let f = g.M.Measure.amount m in
    let far : Beyond v.best (near f of.level of.number s.level s.number) = subst (Beyond v.best) c.near.ensures c.if-not-beyond.ensures in
    record {
      later = later_same v;
      done_below = λ _ q u o. beyond_under f (bounds f (g.M.Measure.laws m)) of.level of.number v.best s.level s.number q r.above far u;
    }

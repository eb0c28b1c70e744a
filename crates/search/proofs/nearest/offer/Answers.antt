use Rattle.std.proofs.Common.{◌≤◌, sym, refl, subst}
use Rattle.board.proofs.Bounded.{bounds}
use Rattle.board.specs.Distances.{near}
use Rattle.search.specs.Descents.{Under}
use Rattle.search.specs.Hunts.{Beyond, near_to, done}
use Rattle.search.proofs.Below.{never_behind}
use Rattle.search.proofs.Hunting.{beyond_under}
use Rattle.search.proofs.Laters.{later_onward}
use Rattle.search.proofs.Offering.{offered_done, offered_waits}
use Rattle.search.proofs.nearest.offer.Goals as goal

pub returns-then-beyond-clause-offered : goal.returns-then-beyond-clause-offered
returns-then-beyond-clause-offered g c =
    let u = c.args.hunt.now in
    let s = c.args.s in
    let of = u.aim.of in
    let m = u.aim.measure.now in
    let f = g.M.Measure.amount m in
    let far : Beyond u.best (near f of.level of.number s.level s.number) = subst (Beyond u.best) c.near-amount.ensures c.if-beyond.ensures in
    offered_done of.level (near_to g.B.Store.answers g.M.Measure.amount u.aim) (done g.B.Store.answers g.M.Measure.amount u) s c.args.list.now c.args.list.now refl refl
    (λ q i o. beyond_under f (bounds f (g.M.Measure.laws m)) of.level of.number u.best s.level s.number q c.requires.above far i)

pub returns-then-not-add : goal.returns-then-not-add
returns-then-not-add g c =
    let u = c.args.hunt.now in
    let l = u.aim.of.level in
    let h = c.if-not-add.ensures in
    let w = c.walk.new.visitor in
    let s = c.args.s in
    let look = c.if-not-look.ensures in
    let met = look.looked c.requires.board c.requires.above in
    let walked = c.walk.ensures.all_done record {
      board = c.requires.board;
      above = subst (λ a. a.of.level ≤ s.level) (sym look.same_aim) c.requires.above;
      in_order = λ q i b. absurd (never_behind _ q s c.requires.board i b);
    } in
    record {
      hunted = later_onward met.later walked.later;
      offered = offered_done l (near_to g.B.Store.answers g.M.Measure.amount u.aim) (done g.B.Store.answers g.M.Measure.amount w) s c.args.list.now c.add.new.self h.same_room h.gains_or_full.1
          (λ q i. walked.done_below refl q (subst (λ x. Under x s.level s.number q) (sym met.later.same) i));
    }

pub returns-else-not-add-clause-offered : goal.returns-else-not-add-clause-offered
returns-else-not-add-clause-offered g c =
    let u = c.args.hunt.now in
    let v = c.look.new.self in
    let l = u.aim.of.level in
    let h = c.if-not-add.ensures in
    let look = c.if-not-look.ensures in
    offered_waits l (near_to g.B.Store.answers g.M.Measure.amount u.aim) (done g.B.Store.answers g.M.Measure.amount v) _ c.args.list.now c.add.new.self h.same_room h.gains_or_full
    record { above = look.stops_at_level refl; board = c.requires.board; amount = c.near-amount.ensures }

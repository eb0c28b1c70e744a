use Rattle.std.proofs.Common.{◌<◌, ◌∷◌, sum_by, sym, refl, subst, arith}
use Rattle.search.specs.Stacks.{held}
use Rattle.search.specs.Offers.{weight}
use Rattle.search.proofs.Stacked.{pushed}
use Rattle.search.proofs.Fronts.{quarters, lighter_taken, lighter_open}
use Rattle.search.proofs.Walks.{Walking, walking_opens, walking_closes}
use Rattle.search.proofs.walk.walk.Goals as goal

pub loop-t-smaller-then-meet : goal.loop-t-smaller-then-meet
loop-t-smaller-then-meet g c =
    let t = c.in-Some.t in
    let ss = held c.pop.new.self in
    let up = c.if-meet.ensures.stops_at_floor refl in
    let less : sum_by weight (quarters t ss) < sum_by weight (t ∷ ss) = lighter_open t ss (omega arith) in
    subst (λ l. sum_by weight l < sum_by weight (held c.loop-t.stack)) (sym c.open.ensures) (subst (λ l. sum_by weight (quarters t ss) < sum_by weight l) (sym (pushed c.pop.new.self.items c.loop-t.stack.items c.in-Some.t c.in-Some.ensures.items)) less)

pub loop-t-preserved-then-meet : goal.loop-t-preserved-then-meet
loop-t-preserved-then-meet g c =
    let V = g.V.Visitor in
    let u = c.args.visitor.now in
    let ss = held c.pop.new.self in
    let m = c.if-meet.ensures in
    let h = subst (Walking V.floor V.since V.done V.comes u c.loop-t.visitor c.args.s) (pushed c.pop.new.self.items c.loop-t.stack.items c.in-Some.t c.in-Some.ensures.items) c.loop-t.invariant in
    subst (Walking V.floor V.since V.done V.comes u c.meet.new.self c.args.s) (sym c.open.ensures)
    (walking_opens V.floor V.since V.done V.comes u c.loop-t.visitor c.args.s c.in-Some.t ss h c.meet.new.self m.same_floor (m.stops_at_floor refl) m.met)

pub loop-t-smaller : goal.loop-t-smaller
loop-t-smaller g c =
    let ss = held c.pop.new.self in
    subst (λ l. sum_by weight ss < sum_by weight l) (sym (pushed c.pop.new.self.items c.loop-t.stack.items c.in-Some.t c.in-Some.ensures.items)) (lighter_taken (λ s. s) c.in-Some.t ss)

pub loop-t-preserved : goal.loop-t-preserved
loop-t-preserved g c =
    let V = g.V.Visitor in
    let u = c.args.visitor.now in
    let ss = held c.pop.new.self in
    let m = c.if-meet.ensures in
    let h = subst (Walking V.floor V.since V.done V.comes u c.loop-t.visitor c.args.s) (pushed c.pop.new.self.items c.loop-t.stack.items c.in-Some.t c.in-Some.ensures.items) c.loop-t.invariant in
    walking_closes V.floor V.since V.done V.comes u c.loop-t.visitor c.args.s c.in-Some.t ss h c.meet.new.self m.same_floor m.met

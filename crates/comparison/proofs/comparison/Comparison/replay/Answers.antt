use Rattle.std.proofs.Common.{[], ◌∷◌, ◌++◌, get_or, take, vec_items, sym, subst}
use Rattle.std.proofs.lemmas.List.{take_all, take_more}
use Rattle.comparison.specs.declared.call.Call.TheVariants.{Begin}
use Rattle.comparison.proofs.Replaying.{Going, going_none, going_more, ran}
use Rattle.comparison.proofs.comparison.Comparison.replay.Goals as goal

pub loop-call-init : goal.loop-call-init
loop-call-init g c =
    let u = c.args.self.now in
    subst (λ os. Going g.A.Store.answers g.B.Store.answers g.M.Measure.amount u [] os u) (sym c.new-outcomes.ensures.items) (going_none g.A.Store.answers g.B.Store.answers g.M.Measure.amount u)

pub loop-call-preserved : goal.loop-call-preserved
loop-call-preserved g c =
    let h = c.call-outcome.ensures.by_the_rule in
    let e = c.in_ok-push.ensures.items in
    let u = c.args.self.now in
    let calls = c.args.calls.now in
    let k = c.loop-call.call-index in
    let lt = c.loop-call-test.true in
    subst (λ cs. Going g.A.Store.answers g.B.Store.answers g.M.Measure.amount u cs (vec_items c.push.new.self) c.call-outcome.new.self) (sym (take_more calls k Begin lt))
    (subst (λ os. Going g.A.Store.answers g.B.Store.answers g.M.Measure.amount u (take k calls ++ get_or calls k Begin ∷ []) os c.call-outcome.new.self) (sym e)
    (going_more g.A.Store.answers g.B.Store.answers g.M.Measure.amount u c.loop-call.self c.call-outcome.new.self (take k calls) (vec_items c.loop-call.outcomes) (get_or calls k Begin) c.call-outcome.result c.loop-call.invariant h))

pub returns : goal.returns
returns g c = record {
  by_the_rules =
      let u = c.args.self.now in
      ran g.A.Store.answers g.B.Store.answers g.M.Measure.amount g.A.Store.facts g.B.Store.facts g.M.Measure.laws u c.loop-call.self c.args.calls.now (vec_items c.loop-call.outcomes)
      (subst (λ cs. Going g.A.Store.answers g.B.Store.answers g.M.Measure.amount u cs (vec_items c.loop-call.outcomes) c.loop-call.self) (take_all c.loop-call.call-index c.args.calls.now c.loop-call-test.false) c.loop-call.invariant);
}

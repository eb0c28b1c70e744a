use Rattle.std.proofs.Common.{sym, ap, ◌∙◌}
use Rattle.std.specs.Option.{is_some}
use Rattle.comparison.proofs.Finishing.{marching_none, marching_more, finished}
use Rattle.comparison.proofs.comparison.Comparison.finish.Goals as goal

pub loop-steps-init : goal.loop-steps-init
loop-steps-init g c = marching_none g.A.Store.answers g.B.Store.answers g.M.Measure.amount c.args.self.now (ap is_some c.in_ok-ok_or.ensures.ok_part)

pub loop-steps-preserved : goal.loop-steps-preserved
loop-steps-preserved g c =
    marching_more g.A.Store.answers g.B.Store.answers g.M.Measure.amount c.args.self.now c.loop-steps.self c.step.new.self c.loop-steps.steps c.count_on-steps.result c.step.result
    (sym c.is_ok.ensures.value ∙ c.loop-steps-test.true) c.loop-steps.invariant c.step.ensures.by_the_rule c.count_on-steps.ensures.value

pub returns : goal.returns
returns g c = record {
  steps_to_the_end =
      finished g.A.Store.answers g.B.Store.answers g.M.Measure.amount g.A.Store.facts g.B.Store.facts g.M.Measure.laws c.args.self.now c.loop-steps.self c.step.new.self c.loop-steps.steps c.step.result
      (sym c.is_ok.ensures.value ∙ c.loop-steps-test.false) c.loop-steps.invariant c.step.ensures.by_the_rule;
}

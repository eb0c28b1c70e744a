use Rattle.std.proofs.Common.{ap}
use Rattle.std.specs.Option.{is_some}
use Rattle.comparison.specs.Calls.Results.{result_early}
use Rattle.comparison.specs.declared.fault.Fault.TheVariants.{NeverBegun}
use Rattle.comparison.proofs.Refusing.{refused_by}
use Rattle.comparison.proofs.Calling.{did_nothing, did_result, did_wait}
use Rattle.comparison.proofs.comparison.Comparison.result.Goals as goal

pub returns-in_err-ok_or : goal.returns-in_err-ok_or
returns-in_err-ok_or g c =
    let q = c.in_err-ok_or.ensures in
    rw (refused_by c.args.self.now.progress NeverBegun _ _ q.value q.ok_part c.from_residual.ensures.1) (record {
      by_the_rule = did_nothing g.A.Store.answers g.A.Store.facts g.B.Store.answers g.B.Store.facts g.M.Measure.amount g.M.Measure.laws c.args.self.now _ _ (result_early (ap is_some q.ok_part));
    })

pub returns-then-count-gt0 : goal.returns-then-count-gt0
returns-then-count-gt0 g c = record { by_the_rule = did_wait g.A.Store.answers g.A.Store.facts g.B.Store.answers g.B.Store.facts g.M.Measure.amount g.M.Measure.laws c.args.self.now c.len-count.result (ap is_some c.in_ok-ok_or.ensures.ok_part) c.len-count.ensures.waiting_entries c.if-count-gt0.true }

pub returns : goal.returns
returns g c =
    let f = c.finding.ensures in
    record {
      by_the_rule = did_result g.A.Store.answers g.A.Store.facts g.B.Store.answers g.B.Store.facts g.M.Measure.amount g.M.Measure.laws c.args.self.now c.len-count.result c.finding.result
          (ap is_some c.in_ok-ok_or.ensures.ok_part) c.len-count.ensures.waiting_entries c.if-count-gt0.false f.distance f.film f.drawing;
    }

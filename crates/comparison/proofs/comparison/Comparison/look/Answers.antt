use Rattle.std.proofs.Common.{ap}
use Rattle.std.specs.Option.{is_some}
use Rattle.comparison.specs.declared.fault.Fault.TheVariants.{NeverBegun}
use Rattle.comparison.specs.Calls.Looks.{look_early}
use Rattle.comparison.proofs.Refusing.{refused_by}
use Rattle.comparison.proofs.Calling.{did_nothing, did_look}
use Rattle.comparison.proofs.comparison.Comparison.look.Goals as goal

pub returns-in_err-record : goal.returns-in_err-record
returns-in_err-record g c =
    let q = c.in_err-record.ensures in
    rw (refused_by c.args.self.now.progress NeverBegun _ _ q.value q.ok_part c.from_residual.ensures.1) (record {
      by_the_rule = did_nothing g.A.Store.answers g.A.Store.facts g.B.Store.answers g.B.Store.facts g.M.Measure.amount g.M.Measure.laws c.args.self.now _ _ (look_early (ap is_some q.ok_part));
    })

pub returns : goal.returns
returns g c =
    let f = c.finding-found.ensures in
    record {
      by_the_rule = did_look g.A.Store.answers g.A.Store.facts g.B.Store.answers g.B.Store.facts g.M.Measure.amount g.M.Measure.laws c.args.self.now c.in_ok-record.record c.high.result c.len.result c.finding-found.result
          c.in_ok-record.ensures.ok_part c.high.ensures.greatest f.distance f.film f.drawing c.len.ensures.waiting_entries;
    }

use Rattle.std.proofs.Common.{◌≡◌, sym, refl, ap, subst}
use Rattle.std.specs.Option.{is_some}
use Rattle.std.proofs.lemmas.Bool.{false≢true}
use Rattle.search.specs.WaitingLists.{room}
use Rattle.comparison.specs.Calls.{Tried}
use Rattle.comparison.specs.Comparisons.{world}
use Rattle.comparison.specs.World.{InFilm}
use Rattle.comparison.specs.Calls.Probes.{not_held, probe_early}
use Rattle.comparison.specs.declared.fault.Fault.TheVariants.{NeverBegun}
use Rattle.comparison.proofs.Refusing.{refused_by}
use Rattle.comparison.proofs.Calling.{did_nothing, did_probe}
use Rattle.comparison.proofs.comparison.Comparison.probe.Goals as goal

pub returns-then-not-holds : goal.returns-then-not-holds
returns-then-not-holds g c = record { by_the_rule = did_nothing g.A.Store.answers g.A.Store.facts g.B.Store.answers g.B.Store.facts g.M.Measure.amount g.M.Measure.laws c.args.self.now _ _ (not_held (λ h. false≢true (c.if-not-holds.ensures.decides.1 h))) }

pub returns-in_err-ok_or : goal.returns-in_err-ok_or
returns-in_err-ok_or g c =
    let q = c.in_err-ok_or.ensures in
    rw (refused_by c.args.self.now.progress NeverBegun _ _ q.value q.ok_part c.from_residual.ensures.1) (record {
      by_the_rule = did_nothing g.A.Store.answers g.A.Store.facts g.B.Store.answers g.B.Store.facts g.M.Measure.amount g.M.Measure.laws c.args.self.now _ _ (probe_early (c.if-not-holds.ensures.decides.0 refl) (ap is_some q.ok_part));
    })

pub returns : goal.returns
returns g c =
    let v = c.args.self.now in
    let held = c.if-not-holds.ensures.decides.0 refl in
    let e = c.code.ensures.value in
    record {
      by_the_rule = did_probe g.A.Store.answers g.A.Store.facts g.B.Store.answers g.B.Store.facts g.M.Measure.amount g.M.Measure.laws v _ c.args.cell (ap is_some c.in_ok-ok_or.ensures.ok_part) held c.try_cell.ensures.stays refl refl
          (subst (λ x. Tried (world g.A.Store.answers g.B.Store.answers g.M.Measure.amount v) (λ y. y ≡ x) v.trial.figures c.try_cell.new.self.figures) e
          (c.try_cell.ensures.tried (room v.suspects) (subst (λ x. InFilm (world g.A.Store.answers g.B.Store.answers g.M.Measure.amount v) x) (sym e) held)));
    }

use Rattle.std.proofs.Common.{◌-◌, Some, refl, ap, ◌∙◌, subst, ap₂, arith}
use Rattle.std.specs.Option.{is_some}
use Rattle.search.specs.WaitingLists.{Taken}
use Rattle.comparison.specs.Calls.{counted}
use Rattle.comparison.specs.Calls.Steps.{step_early}
use Rattle.comparison.specs.Suspects.{before}
use Rattle.comparison.specs.declared.fault.Fault.TheVariants.{NeverBegun, NothingWaits}
use Rattle.comparison.proofs.Finishing.{taken_weight}
use Rattle.comparison.proofs.Advancing.{handles_grow, taken_order, taken_board, taken_on}
use Rattle.comparison.proofs.Refusing.{refused_by}
use Rattle.comparison.proofs.Calling.{did_nothing, did_step, did_no_step}
use Rattle.comparison.proofs.comparison.Comparison.step.Goals as goal

pub returns-in_err-record-clause-by_the_rule : goal.returns-in_err-record-clause-by_the_rule
returns-in_err-record-clause-by_the_rule g c =
    let q = c.in_err-record.ensures in
    rw (refused_by c.args.self.now.progress NeverBegun _ _ q.value q.ok_part c.from_residual.ensures.1)
    (did_nothing g.A.Store.answers g.A.Store.facts g.B.Store.answers g.B.Store.facts g.M.Measure.amount g.M.Measure.laws c.args.self.now _ _ (step_early (ap is_some q.ok_part)))

pub invariant_of-self-clause-in_order : goal.invariant_of-self-clause-in_order
invariant_of-self-clause-in_order g c = taken_order c.args.self.now.suspects c.take.result c.take.new.self c.take.ensures.loses_first_or_none c.args.self.now.in_order

pub invariant_of-self-clause-on_board : goal.invariant_of-self-clause-on_board
invariant_of-self-clause-on_board g c = taken_board c.args.self.now.suspects c.take.result c.take.new.self c.take.ensures.loses_first_or_none c.args.self.now.on_board

pub handle-requires : goal.handle-requires
handle-requires g c = record { on_board = taken_on c.args.self.now.suspects c.in_ok-s.s c.take.new.self (subst (λ o. Taken before c.args.self.now.suspects o c.take.new.self) c.in_ok-s.ensures.ok_part c.take.ensures.loses_first_or_none) c.args.self.now.on_board }

pub overflow_sub-queued : goal.overflow_sub-queued
overflow_sub-queued g c = omega (arith, handles_grow g.A.Store.answers g.B.Store.answers g.M.Measure.amount _ c.handle.new.self c.in_ok-s.s c.handle.ensures.handled, c.len.ensures.waiting_entries, c.len-left.ensures.waiting_entries)

pub returns-in_err-s-clause-by_the_rule : goal.returns-in_err-s-clause-by_the_rule
returns-in_err-s-clause-by_the_rule g c =
    let q = c.in_err-s.ensures in
    rw (refused_by c.take.result NothingWaits _ _ q.value q.ok_part c.from_residual-in_err-s.ensures.1)
    (did_no_step g.A.Store.answers g.A.Store.facts g.B.Store.answers g.B.Store.facts g.M.Measure.amount g.M.Measure.laws c.args.self.now _ c.in_ok-record.record c.in_ok-record.ensures.ok_part c.take.ensures.same_room refl refl
    (subst (λ o. Taken before c.args.self.now.suspects o c.take.new.self) q.ok_part c.take.ensures.loses_first_or_none))

pub returns : goal.returns
returns g c =
    let t : Taken before c.args.self.now.suspects (Some c.in_ok-s.s) c.take.new.self = subst (λ o. Taken before c.args.self.now.suspects o c.take.new.self) c.in_ok-s.ensures.ok_part c.take.ensures.loses_first_or_none in
    record {
      by_the_rule =
          did_step g.A.Store.answers g.A.Store.facts g.B.Store.answers g.B.Store.facts g.M.Measure.amount g.M.Measure.laws c.args.self.now _ c.in_ok-record.record c.in_ok-record.ensures.ok_part c.take.ensures.same_room refl refl
          c.in_ok-s.s c.handle.new.self _ c.stepped.result t c.handle.ensures.handled refl refl refl
          (c.stepped.ensures.queued ∙ ap₂ (λ m n. counted c.in_ok-record.record.queued (m - n)) c.len.ensures.waiting_entries c.len-left.ensures.waiting_entries) c.stepped.ensures.taken;
      lighter = omega (arith, c.handle.ensures.lighter, taken_weight c.args.self.now.suspects c.in_ok-s.s c.take.new.self t);
    }

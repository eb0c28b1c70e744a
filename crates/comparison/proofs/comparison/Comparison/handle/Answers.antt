use Rattle.std.proofs.Common.{sym, refl, subst, arith}
use Rattle.std.proofs.lemmas.Bool.{false≢true}
use Rattle.comparison.specs.Calls.{Improves}
use Rattle.search.proofs.Fronts.{weight_pos, fifth}
use Rattle.comparison.proofs.Advancing.{handles_dropped, handles_settled, handles_opened, handles_sunk}
use Rattle.comparison.proofs.comparison.Comparison.handle.Goals as goal

pub returns-then-not-improved_by : goal.returns-then-not-improved_by
returns-then-not-improved_by g c = record {
  lighter = omega (arith, weight_pos c.args.s.square);
  handled =
      let v = c.args.self.now in
      handles_dropped g.A.Store.answers g.B.Store.answers g.M.Measure.amount v c.args.s
      (λ i. false≢true (c.if-not-improved_by.ensures.decides.1 (subst (Improves v.trial.figures c.args.s.key) (sym c.start.ensures.value) i)));
}

pub returns-then-s-eq0-clause-handled : goal.returns-then-s-eq0-clause-handled
returns-then-s-eq0-clause-handled g c =
    let v = c.args.self.now in
    handles_settled g.A.Store.answers g.B.Store.answers g.M.Measure.amount v _ c.args.s refl refl
    (subst (Improves v.trial.figures c.args.s.key) c.start.ensures.value (c.if-not-improved_by.ensures.decides.0 refl))
    (record { world = refl; idle = λ e. e }) c.at_cell-self.ensures.value c.if-s-eq0.true

pub returns-then-free : goal.returns-then-free
returns-then-free g c = record {
  lighter = omega (arith, weight_pos c.args.s.square, fifth c.args.s.square (let z = c.if-s-eq0.false in omega arith), c.open.ensures.lighter);
  handled =
      let v = c.args.self.now in
      let some = c.if-s-eq0.false in
      let free = c.free.ensures.free_places in
      let many = c.if-free.true in
      handles_opened g.A.Store.answers g.B.Store.answers g.M.Measure.amount v c.open.new.self c.args.s
      (subst (Improves v.trial.figures c.args.s.key) c.start.ensures.value (c.if-not-improved_by.ensures.decides.0 refl))
      (omega arith) (omega arith) c.open.ensures.opened;
}

pub returns-else-free : goal.returns-else-free
returns-else-free g c = record {
  lighter = omega (arith, weight_pos c.args.s.square);
  handled =
      let v = c.args.self.now in
      let some = c.if-s-eq0.false in
      let free = c.free.ensures.free_places in
      let few = c.if-free.false in
      handles_sunk g.A.Store.answers g.B.Store.answers g.M.Measure.amount v _ c.args.s refl refl
      (subst (Improves v.trial.figures c.args.s.key) c.start.ensures.value (c.if-not-improved_by.ensures.decides.0 refl))
      c.try_square.ensures.stays (omega arith) (omega arith) (c.try_square.ensures.tried _);
}

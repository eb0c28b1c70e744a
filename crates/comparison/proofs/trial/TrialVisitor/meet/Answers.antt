use denote.Enum.Bare.{differs_false}
use Rattle.std.proofs.Common.{◌≡◌, true, sym, refl, ap, ◌∙◌, subst, arith, rules}
use Rattle.std.proofs.lemmas.Bool.{false≢true}
use Rattle.board.specs.Squares.{Inside}
use Rattle.store.specs.Stores.{counts, Holds}
use Rattle.store.specs.contracts.store.Answer.{the_type}
use Rattle.comparison.proofs.Keying.{cell_of}
use Rattle.comparison.proofs.Diving.{meets_square, meets_other, meets_cell}
use Rattle.comparison.proofs.trial.TrialVisitor.meet.Goals as goal

pub returns-then-s-gt0-clause-met : goal.returns-then-s-gt0-clause-met
returns-then-s-gt0-clause-met g c = λ r.
    meets_square g.A.Store.answers g.B.Store.answers g.M.Measure.amount c.args.self.now c.args.s c.ne.result (g.A.Store.facts c.args.self.now.ground.film) r.board.0
    (λ e. sym c.query-answer.ensures.answer ∙ differs_false the_type (search rules) _ _ (sym c.ne.ensures ∙ e))

pub returns-then-not-holds-clause-met : goal.returns-then-not-holds-clause-met
returns-then-not-holds-clause-met g c = λ r.
    let v = c.args.self.now in
    let s = c.args.s in
    let back = cell_of c.from_code.result s.number c.from_code.ensures.column c.from_code.ensures.row in
    meets_other g.A.Store.answers g.B.Store.answers g.M.Measure.amount v s c.if-s-gt0.false
    (λ i. false≢true (c.if-not-holds.ensures.by_code.1 (subst (Inside v.square.level v.square.number) (sym back) i)))

pub returns-clause-met : goal.returns-clause-met
returns-clause-met g c = λ r.
    let v = c.args.self.now in
    let s = c.args.s in
    let w = c.try_cell.new.self in
    let back = cell_of c.from_code.result s.number c.from_code.ensures.column c.from_code.ensures.row in
    let inside : Inside v.square.level v.square.number s.number = subst (Inside v.square.level v.square.number) back (c.if-not-holds.ensures.by_code.0 refl) in
    let at : counts (g.A.Store.answers v.ground.film s.level s.number) ≡ true = sym (ap counts c.query-answer.ensures.answer) ∙ sym c.if-not-counts.ensures.value in
    let low = c.if-s-gt0.false in
    let zero : s.level ≡ 0 = omega arith in
    let held : Holds (g.A.Store.answers v.ground.film) s.number = subst (λ l. counts (g.A.Store.answers v.ground.film l s.number) ≡ true) zero at in
    meets_cell g.A.Store.answers g.B.Store.answers g.M.Measure.amount v w s.number c.try_cell.ensures.stays c.try_cell.ensures.same_square (c.try_cell.ensures.tried 0 held) s low refl inside

use denote.Enum.Bare.{same_true}
use Rattle.std.proofs.Common.{◌≡◌, ◌*◌, ◌^◌, ◌<◌, sym, refl, ap, ◌∙◌, subst, arith, rules}
use Rattle.store.specs.contracts.store.Answer.{the_type}
use Rattle.store.specs.declared.store.Answer.TheVariants.{Empty}
use Rattle.store.specs.Stores.{counts, Counts, Holds}
use Rattle.board.specs.Limits.{parts}
use Rattle.search.specs.Firsts.{FirstHeld}
use Rattle.search.proofs.Counting.{not_both, empty_under}
use Rattle.search.proofs.Laters.{later_same}
use Rattle.search.proofs.Scouting.{unset, searched_empty, first_found}
use Rattle.search.proofs.first.ScoutVisitor.meet.Goals as goal

pub returns-then-eq-clause-met : goal.returns-then-eq-clause-met
returns-then-eq-clause-met g c =
    let v = c.args.self.now in
    let s = c.args.s in
    let t = g.A.Store.answers v.store.now in
    let e : t s.level s.number ≡ Empty = sym c.query-answer.ensures.answer ∙ same_true the_type (search rules) _ _ (sym c.if-eq.ensures) in
    λ r. record {
      later = later_same v;
      done_below = λ _ q u. searched_empty t v.first q (λ o. not_both _ (empty_under t (g.A.Store.facts v.store.now) 0 s.level s.number q r.above r.board.0 e u) o);
    }

pub returns-then-counts-clause-met : goal.returns-then-counts-clause-met
returns-then-counts-clause-met g c =
    let v = c.args.self.now in
    let s = c.args.s in
    let A = g.A.Store.answers in
    let t = A v.store.now in
    let e : s.level ≡ 0 = omega arith in
    let held : Holds t s.number = subst (λ l. Counts (t l s.number)) e (ap counts (sym c.query-answer.ensures.answer) ∙ sym c.if-counts.ensures.value) in
    λ r.
    let first : FirstHeld t s.number = first_found t v.first s.number (unset v.first c.if-is_some.ensures) held
    (λ d lt. r.in_order d (omega arith) (subst (λ l. d * parts ^ 0 < s.number * parts ^ l) (sym e) (omega arith))) in
    record {
      later = record {
        same = refl;
        begun = refl;
        keeps = λ q d. tt;
        from = λ x h. (h.0, λ _. subst (λ w. FirstHeld (A w.now) s.number) h.0 first);
      };
      done_below = λ _ q u. tt;
    }

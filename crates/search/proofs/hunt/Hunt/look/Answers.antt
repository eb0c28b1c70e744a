use denote.Enum.Bare.{same_true}
use Rattle.std.proofs.Common.{◌≡◌, sym, ◌∙◌, rules}
use Rattle.store.specs.contracts.store.Answer.{the_type}
use Rattle.store.specs.declared.store.Answer.TheVariants.{Empty}
use Rattle.search.proofs.Counting.{not_both, empty_under}
use Rattle.search.proofs.Laters.{later_same}
use Rattle.search.proofs.hunt.Hunt.look.Goals as goal

pub returns-then-eq-clause-looked : goal.returns-then-eq-clause-looked
returns-then-eq-clause-looked g c =
    let v = c.args.self.now in
    let s = c.args.s in
    let t = g.B.Store.answers v.aim.store.now in
    let l = v.aim.of.level in
    let e : t s.level s.number ≡ Empty = sym c.query-answer.ensures.answer ∙ same_true the_type (search rules) _ _ (sym c.if-eq.ensures) in
    λ b h. record {
      later = later_same v;
      done_below = λ _ q u o. absurd (not_both _ (empty_under t (g.B.Store.facts v.aim.store.now) l s.level s.number q h b.0 e u) o);
    }

use Rattle.std.proofs.Common.{◌≡◌, ◌/◌, ◌*◌, ◌^◌, ◌<◌, ◌≤◌, length, get_or, MatchResult, rules, sym, ap, ◌∙◌, subst}
use Rattle.board.proofs.Boards.{four_power}
use Rattle.store.proofs.Listed.{sides, found, missing}
use Rattle.store.proofs.list.CodeListStore.query.Goals as goal

pub returns-then-code-square : goal.returns-then-code-square
returns-then-code-square c =
    let s = c.args.self.now in
    let cs = s.codes.now in
    let l = c.args.square.level in
    let n = c.args.square.number in
    let p = c.unwrap_or_else-place.result in
    let h : (p < length cs) × (get_or cs p 0 / 2 ^ (2 * l) ≡ n) = search rules in
    record { answer = found cs s.rising l n p c.in-Some.ensures.place.0 h.0 (ap (λ x. get_or cs p 0 / x) (sym (four_power l)) ∙ h.1) }

pub returns-in_default-2 : goal.returns-in_default-2
returns-in_default-2 c =
    let s = c.args.self.now in
    let cs = s.codes.now in
    let l = c.args.square.level in
    let n = c.args.square.number in
    let p = c.unwrap_or_else-place.result in
    let b = c.in-Some.ensures.place in
    let none : p < length cs → get_or cs p 0 / 2 ^ (2 * l) ≡ n → ⊥ = search rules in
    let at : MatchResult c.binary_search.result (λ x. p ≡ x) (λ x. p ≡ x) = search rules in
    let around = sides cs c.in-Some.first p c.binary_search.result s.rising c.binary_search.ensures.position at in
    record {
      answer =
          missing cs s.rising l n p b.0
          (λ k h. subst (λ x. get_or cs k 0 < x) b.1 (around.0 k h))
          (λ k h j. subst (λ x. x ≤ get_or cs k 0) b.1 (around.1 k h j))
          (λ h i. none h (ap (λ x. get_or cs p 0 / x) (four_power l) ∙ i));
    }

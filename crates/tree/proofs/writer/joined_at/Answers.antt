use Rattle.std.proofs.Common.{◌≡◌, ℕ, ◌*◌, ◌/◌, ◌^◌, ◌<◌, ◌≤◌, MatchOption, Option, Some, None, sym, ap, ◌∙◌, arith, rules, tests}
use Rattle.std.specs.Option.{unwrap_or}
use Rattle.std.proofs.lemmas.Iterator.{first_from_Range}
use Rattle.tree.specs.Passes.{Joins}
use Rattle.tree.proofs.Standing.{two_four}
use Rattle.tree.proofs.writer.joined_at.Goals as goal

-- both cells lie in one square of this level, as code computes it
abbrev SameSquare : ℕ → ℕ → ℕ → Type 0
SameSquare a b level = a / 2 ^ (2 * level) ≡ b / 2 ^ (2 * level)

by_four : (a b level : ℕ) → SameSquare a b level → a / 4 ^ level ≡ b / 4 ^ level
by_four a b level e = ap (λ x. a / x) (sym (two_four level)) ∙ e ∙ ap (λ x. b / x) (two_four level)

by_two : (a b level : ℕ) → a / 4 ^ level ≡ b / 4 ^ level → SameSquare a b level
by_two a b level e = ap (λ x. a / x) (two_four level) ∙ e ∙ ap (λ x. b / x) (sym (two_four level))

joins : (a b height : ℕ) (o : Option ℕ) → 1 ≤ height
    → MatchOption o ((k : ℕ) → 1 ≤ k → k < height → SameSquare a b k → ⊥)
    (λ i. (1 ≤ i) × (i < height) × SameSquare a b i × ((k : ℕ) → 1 ≤ k → k < i → SameSquare a b k → ⊥))
    → Joins a b height (unwrap_or o height)
joins a b height None h f = record { low = h; high = omega arith; apart = λ k p q e. f k p q (by_two a b k e); same = λ lt. absurd (omega arith) }
joins a b height (Some i) h w = record { low = w.0; high = omega (arith, w.1); apart = λ k p q e. w.3 k p q (by_two a b k e); same = λ lt. by_four a b i w.2 }

pub returns : goal.returns
returns c =
    let a = c.args.a in
    let b = c.args.b in
    rw c.unwrap_or.ensures (joins a b c.args.height.levels c.find.result c.args.height.in_range.0
    (first_from_Range _ _ _ c.find.result (SameSquare a b) (λ k. SameSquare a b k → ⊥) c.find.ensures.ran (λ x q k. search (rules, tests)) (λ x q k. search (rules, tests))))

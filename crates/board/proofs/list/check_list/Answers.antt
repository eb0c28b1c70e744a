use Rattle.std.proofs.Common.{rules, ◌≡◌, ◌+◌, ◌-◌, ◌≤◌, ◌<◌, ℕ, length, slice_index, inr, subst, refl, arith, MatchOption}
use Rattle.board.proofs.list.check_list.Goals as goal
use Rattle.board.proofs.Pairs.{pairs, length-pairs, rising_pairs, falls_at, YieldsList-from_pairs}
use Rattle.std.proofs.lemmas.Iterator.{IsFirst-from_position}
use Rattle.std.specs.List.{AllWithin, HoldsAt}
use borrow.Author.Tests.{tests}

pub returns-in-Some : goal.returns-in-Some
returns-in-Some c =
    let cs = c.args.codes.now in
    let i = c.in-Some.before in
    let found : (i < length (pairs cs)) × HoldsAt (λ (p : ℕ × ℕ). p.1 ≤ p.0) (pairs cs) i × AllWithin (λ (p : ℕ × ℕ). p.0 < p.1) (pairs cs) 0 i =
    subst (λ r. MatchOption r (AllWithin (λ (p : ℕ × ℕ). p.0 < p.1) (pairs cs) 0 (length (pairs cs))) (λ i. (i < length (pairs cs)) × HoldsAt (λ (p : ℕ × ℕ). p.1 ≤ p.0) (pairs cs) i × AllWithin (λ (p : ℕ × ℕ). p.0 < p.1) (pairs cs) 0 i)) c.in-Some.is
    (IsFirst-from_position _ _ _ (λ (p : ℕ × ℕ). p.1 ≤ p.0) (λ (p : ℕ × ℕ). p.0 < p.1) c.position.ensures.ran
    (YieldsList-from_pairs cs c.windows.ensures.rest c.windows.ensures.size)
    (λ x q k. search (rules, tests)) (λ x q k. search (rules, tests))) in
    let n = length-pairs cs in
    let back : i ≡ i + 1 - 1 = omega arith in
    let high : slice_index cs (i + 1) ≤ slice_index cs (i + 1 - 1) = subst (λ k. slice_index cs (i + 1) ≤ slice_index cs k) back (falls_at cs i found.0 found.1) in
    let rising = rising_pairs cs i (omega (arith, found.0)) found.2 in
    record { rising_or_refused = (refl, inr (omega arith, omega arith, omega (arith, found.0), high, rising)) }

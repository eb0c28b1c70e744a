use Rattle.std.proofs.Common.{vec_items}
use Rattle.std.proofs.lemmas.List.Filters.{dedup_is}
use Rattle.std.proofs.lemmas.List.Kept.{Contains-dedup_nat, Contains-from_dedup}
use Rattle.std.proofs.lemmas.List.Sorted.{Contains-permutation, IsPermutation-sym}
use Rattle.std.proofs.lemmas.Map.Keys.{IsStrictlyIncreasing-dedup}
use lib.Dec.{eqb}
use Rattle.samples.proofs.lists.in_order.Goals as goal

pub returns-clause-rising : goal.returns-clause-rising
returns-clause-rising c =
    let sorted = vec_items c.sort_unstable.new.self in
    let kept = dedup_is eqb sorted _ c.dedup.ensures.filtered in
    rw kept (IsStrictlyIncreasing-dedup sorted c.sort_unstable.ensures.sorted)

pub returns-clause-same_numbers : goal.returns-clause-same_numbers
returns-clause-same_numbers c n =
    let all = vec_items c.args.numbers in
    let sorted = vec_items c.sort_unstable.new.self in
    let moved = c.sort_unstable.ensures.permutation in
    let kept = dedup_is eqb sorted _ c.dedup.ensures.filtered in
    rw kept (
      λ h. Contains-permutation sorted all n (IsPermutation-sym all sorted moved) (Contains-from_dedup eqb sorted n h),
      λ h. Contains-dedup_nat sorted n (Contains-permutation all sorted n moved h),
    )

-- What a place written or given up does to the bag of the first places.
use Rattle.std.proofs.Common.{◌≡◌, ℕ, ◌+◌, ◌-◌, ◌<◌, ◌≤◌, List, [], ◌∷◌, ◌++◌, length, get_or, take, set, slice_get, Ordering, sym, refl, ap, ◌∙◌, subst, arith, length-set}
use lib.Seq.{take-set-lt}
use Rattle.std.specs.List.Sorted.{IsPermutation}
use Rattle.std.specs.Slice.Heapsort.{IsHeapWithin}
use Rattle.std.specs.List.{swap as exchanged, swap_remove, ContainsAt as Has}
use Rattle.std.specs.Cmp.{IsTotalOrder, back_total}
use Rattle.std.proofs.lemmas.List.{take_more_set, take_all, take-take, length-take-le, get_or-take, get_or_read, length_push, take_at}
use Rattle.std.proofs.lemmas.List.Sorted.{IsPermutation-sym, IsPermutation-to_front, IsPermutation-swap, IsPermutation-trans, IsPermutation-cons, length_permutation}
use Rattle.std.proofs.lemmas.List.Edits.{swap_is}
use Rattle.std.proofs.ByRecursion.{has_get_or}
use Rattle.std.proofs.HeapSift as sifts
use Rattle.std.specs.BinaryHeap.{lt_by_cmp, IsHeap}
use Rattle.std.specs.BinaryHeap.Sift.{RestoresHeap, SiftsUp, SiftsDown}
use Rattle.std.specs.Ordering.{flip_args}
use Rattle.search.specs.declared.waiting.WaitingList.{WaitingList}
use Rattle.search.specs.WaitingLists.{waiting, Stays, Drawn, InHeap, FirstIn, Shown}

module _ {X : Type 0} where
  -- the last entry goes into the place of the one that leaves
  pub loses : (xs : List X) (n b : ℕ) (x y : X) → b < n → n ≤ length xs → x ≡ get_or xs b x → y ≡ get_or xs (n - 1) y → IsPermutation (take n xs) (x ∷ take (n - 1) (set xs b y))
  loses xs n b x y h k p q =
      let ys = take n xs in
      let long : length ys ≡ n = length-take-le n xs k in
      let w = set ys b y in
      let wide : length w ≡ length ys = length-set ys b y in
      let back : n - 1 + 1 ≡ n = omega arith in
      let atb : get_or ys b x ≡ x = get_or-take n xs b x h ∙ sym p in
      let atn : get_or ys (n - 1) x ≡ y = get_or-take n xs (n - 1) x (omega arith) ∙ sym (get_or_read xs (n - 1) y (omega arith) q x) in
      let is : set w (n - 1) x ≡ exchanged ys b (n - 1) =
      (λ i. set (set ys b (sym atn i)) (n - 1) (sym atb i)) ∙ swap_is ys b (n - 1) x (omega arith) (omega arith) in
      let whole : take (n - 1 + 1) (set w (n - 1) x) ≡ set w (n - 1) x = take_all (n - 1 + 1) (set w (n - 1) x) (omega (arith, length-set w (n - 1) x)) in
      let cut : take (n - 1 + 1) (set w (n - 1) x) ≡ take (n - 1) w ++ x ∷ [] = take_more_set w (n - 1) x (omega arith) in
      let front : take (n - 1) w ≡ take (n - 1) (set xs b y) = ap (take (n - 1)) (sym (take-set-lt n xs b y h)) ∙ take-take (n - 1) n (set xs b y) (omega arith) in
      let swap : IsPermutation ys (take (n - 1) w ++ x ∷ []) = IsPermutation-swap ys _ b (n - 1) (omega arith) (omega arith) (sym cut ∙ whole ∙ is) in
      subst (λ l. IsPermutation ys (x ∷ l)) front (IsPermutation-trans ys _ _ swap (IsPermutation-to_front (take (n - 1) w) x))

-- what sank from the first place is a heap again
mends : {X : Type 0} (R : X → X → Ordering) (xs ys : List X) (n : ℕ) → length ys ≡ n → SiftsDown R xs 0 n ys → RestoresHeap R xs 1 n ys
unfolding RestoresHeap SiftsDown IsHeap
mends R xs ys n e h = λ k. subst (IsHeapWithin (lt_by_cmp R) ys 0) (sym e) (h.1 k)

module _ {X : Type 0} (R : X → X → Ordering) (o : IsTotalOrder R) where
  -- x in the next place, and risen from there
  pub placed : (xs zs rest : List X) (n : ℕ) (x : X) → n < length xs → IsPermutation (take (n + 1 - 0) (set xs n x)) zs → SiftsUp (flip_args R) (take (n + 1 - 0) (set xs n x)) n zs
      → IsPermutation (x ∷ take n xs) (take (n + 1) (zs ++ rest)) × Stays R (take n xs) (take (n + 1) (zs ++ rest))
  placed xs zs rest n x h s r =
      let ys = take (n + 1 - 0) (set xs n x) in
      let k : n + 1 - 0 ≡ n + 1 = omega arith in
      let is : ys ≡ take n xs ++ x ∷ [] = ap (λ m. take m (set xs n x)) k ∙ take_more_set xs n x h in
      let short : length (take n xs) ≡ n = length-take-le n xs (omega arith) in
      let long : length zs ≡ n + 1 = length_permutation ys zs s ∙ ap length is ∙ length_push (take n xs) x ∙ ap (λ m. m + 1) short in
      let out : take (n + 1) (zs ++ rest) ≡ zs = take_at zs rest (n + 1) long in
      let front' : IsPermutation (x ∷ take n xs) ys = subst (IsPermutation (x ∷ take n xs)) (sym is) (IsPermutation-sym _ _ (IsPermutation-to_front (take n xs) x)) in (
        subst (IsPermutation (x ∷ take n xs)) (sym out) (IsPermutation-trans (x ∷ take n xs) ys zs front' s),
        subst (Stays R (take n xs)) (sym out) (sifts.pushed (flip_args R) (back_total o) (take n xs) (x ∷ []) ys zs n (sym short) is long r),
      )

  -- the last in the first place, and sunk from there
  pub drawn_out : (xs zs rest : List X) (n : ℕ) (x y : X) → 0 < n → n ≤ length xs → x ≡ get_or xs 0 x → y ≡ get_or xs (n - 1) y
      → IsPermutation (take (n - 1 - 0) (set xs 0 y)) zs → SiftsDown (flip_args R) (take (n - 1 - 0) (set xs 0 y)) 0 (length (take (n - 1 - 0) (set xs 0 y))) zs
      → IsPermutation (take n xs) (x ∷ take (n - 1) (zs ++ rest)) × Drawn R (take n xs) x (take (n - 1) (zs ++ rest))
  drawn_out xs zs rest n x y h k p q s r =
      let ys = take (n - 1 - 0) (set xs 0 y) in
      let l = take n xs in
      let same : n - 1 - 0 ≡ n - 1 = omega arith in
      let is : ys ≡ take (n - 1) (set xs 0 y) = ap (λ m. take m (set xs 0 y)) same in
      let long : length l ≡ n = length-take-le n xs k in
      let all : length (set xs 0 y) ≡ length xs = length-set xs 0 y in
      let short : length ys ≡ n - 1 = ap length is ∙ length-take-le (n - 1) (set xs 0 y) (omega arith) in
      let kept : length zs ≡ n - 1 = length_permutation ys zs s ∙ short in
      let out : take (n - 1) (zs ++ rest) ≡ zs = take_at zs rest (n - 1) kept in
      let less : length l - 1 ≡ n - 1 = omega arith in
      let last : get_or l (length l - 1) x ≡ y = ap (λ m. get_or l m x) less ∙ get_or-take n xs (n - 1) x (omega arith) ∙ sym (get_or_read xs (n - 1) y (omega arith) q x) in
      let cut : ys ≡ swap_remove l 0 x = is ∙ sym (take-take (n - 1) n (set xs 0 y) (omega arith)) ∙ ap (take (n - 1)) (take-set-lt n xs 0 y h) ∙ (λ i. take (sym less i) (set l 0 (sym last i))) in
      let first : x ≡ get_or l 0 x = p ∙ sym (get_or-take n xs 0 x h) in
      let bag : IsPermutation l (x ∷ ys) = subst (λ v. IsPermutation l (x ∷ v)) (sym is) (loses xs n 0 x y h k p q) in
      let heap : RestoresHeap (flip_args R) ys 1 (n - 1) zs = subst (λ m. RestoresHeap (flip_args R) ys 1 m zs) short (mends (flip_args R) ys zs (length ys) (kept ∙ sym short) r) in (
        subst (λ v. IsPermutation l (x ∷ v)) (sym out) (IsPermutation-trans l (x ∷ ys) (x ∷ zs) bag (IsPermutation-cons x ys zs s)),
        subst (Drawn R l x) (sym out) (sifts.popped (flip_args R) (back_total o) l ys zs x (n - 1) (omega arith) first cut heap),
      )

  -- what stands in the first place
  pub shown : (w : WaitingList X) (xs : List X) → waiting w ≡ xs → Shown R w (slice_get xs 0)
  shown w [] e = e
  shown w (x ∷ xs) e = subst (λ l. Has l x × (InHeap R l → FirstIn R x l)) (sym e) (has_get_or (x ∷ xs) 0 x (omega arith), sifts.greatest (back_total o) (x ∷ xs) x refl)

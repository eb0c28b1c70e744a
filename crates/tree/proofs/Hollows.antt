-- Blocks of T followed by L, from the blocks of each.
use Rattle.std.proofs.Common.{◌≡◌, ℕ, ◌+◌, ◌-◌, ◌*◌, ◌/◌, ◌%◌, ◌<◌, ◌≤◌, Bool, ◌⊎◌, List, Option, Some, None, MatchOption, ◌++◌, length, take, drop, sym, refl, ap, ◌∙◌, subst, inl, inr, arith, length-append, length-drop}
use lib.Seq.{drop-append-add}
use Rattle.std.specs.Option.{option_map}
use Rattle.std.proofs.lemmas.List.{take-append-le, drop-append-le}
use Rattle.std.proofs.lemmas.Bool.{cases_lt}
use Rattle.tree.specs.Bitmaps.{AllFilledBelow, bits, Filled, ones}
use Rattle.tree.specs.Faults.{Hollow}
use Rattle.tree.proofs.Bytes.{length-bits}

module _ (t l : List Bool) (four : length t % 4 ≡ 0) where
  in_t : (k : ℕ) → 4 * k < length t → take 4 (drop (4 * k) (t ++ l)) ≡ take 4 (drop (4 * k) t)
  in_t k h =
      let d : length (drop (4 * k) t) ≡ length t - 4 * k = length-drop (4 * k) t in
      ap (take 4) (drop-append-le (4 * k) t l (omega arith)) ∙ take-append-le 4 (drop (4 * k) t) l (omega arith)

  in_l : (k : ℕ) → drop (length t + 4 * k) (t ++ l) ≡ drop (4 * k) l
  in_l k = drop-append-add t l (4 * k)

  pub whole_t : (k : ℕ) → 4 * k < length t → Filled t k → Filled (t ++ l) k
  whole_t k h f = subst (λ x. 0 < ones x) (sym (in_t k h)) f

  pub part_t : (k : ℕ) → 4 * k < length t → Filled (t ++ l) k → Filled t k
  part_t k h f = subst (λ x. 0 < ones x) (in_t k h) f

  pub whole_l : (k j : ℕ) → 4 * k ≡ length t + 4 * j → Filled l j → Filled (t ++ l) k
  whole_l k j e f = subst (λ x. 0 < ones (take 4 x)) (sym (ap (λ n. drop n (t ++ l)) e ∙ in_l j)) f

  pub part_l : (k j : ℕ) → 4 * k ≡ length t + 4 * j → Filled (t ++ l) k → Filled l j
  part_l k j e f = subst (λ x. 0 < ones (take 4 x)) (ap (λ n. drop n (t ++ l)) e ∙ in_l j) f

  -- all blocks of T from the second on have a 1, and those of L before one
  module _ (upper : (k : ℕ) → 1 ≤ k → 4 * k < length t → Filled t k) (n from : ℕ) (first : length t ≡ 0 → from ≡ 1) (some : (length t ≡ 0 → ⊥) → from ≡ 0)
      (lower : (j : ℕ) → from ≤ j → j < n → Filled l j) where
    pub filled_so : (k : ℕ) → 0 < k → 4 * k < length t + 4 * n → Filled (t ++ l) k
    filled_so k p h = go (cases_lt (4 * k) (length t))
      where
        go : (4 * k < length t) ⊎ (length t ≤ 4 * k) → Filled (t ++ l) k
        go (inl lt) = whole_t k lt (upper k (omega arith) lt)
        go (inr le) =
            let j = k - length t / 4 in
            let e : 4 * k ≡ length t + 4 * j = omega arith in
            let f : from ≤ j = at (cases_lt 0 (length t)) in
            whole_l k j e (lower j f (omega arith))
          where
            at : (0 < length t) ⊎ (length t ≤ 0) → from ≤ k - length t / 4
            at (inl s) = omega (arith, some (λ z. omega arith))
            at (inr z) = omega (arith, first (omega arith))

-- the first hollow block
pub hollow_at : (bs : List Bool) (k : ℕ) → 0 < k → 4 * k < length bs → (Filled bs k → ⊥) → ((j : ℕ) → 0 < j → j < k → Filled bs j)
    → Hollow bs (4 * k) × ((q : ℕ) → q < 4 * k → Hollow bs q → ⊥)
hollow_at bs k p h e before = (
  record { block = k; begins = refl; below = p; within = h; empty = e },
  λ q lt w. w.empty (before w.block w.below (omega (arith, w.begins))),
)

-- over bytes, with the blocks of each bitmap counted
module _ (T L : List ℕ) (tn ln : ℕ) (four : tn % 4 ≡ 0) (four' : ln % 4 ≡ 0) where
  abbrev all : List Bool
  all = bits T tn ++ bits L ln

  long : length (bits T tn) ≡ tn
  long = length-bits T tn

  long_all : length all ≡ tn + ln
  long_all = omega (arith, length-append (bits T tn) (bits L ln), long, length-bits L ln)

  whole_four : length (bits T tn) % 4 ≡ 0
  whole_four = omega (arith, long)

  pub hollow_t : (k : ℕ) → 1 ≤ k → k < tn / 4 → (Filled (bits T tn) k → ⊥) → ((j : ℕ) → 1 ≤ j → j < k → Filled (bits T tn) j)
      → Hollow all (4 * k) × ((q : ℕ) → q < 4 * k → Hollow all q → ⊥)
  hollow_t k p h e before =
      hollow_at all k (omega arith) (omega (arith, long_all))
      (λ f. e (part_t (bits T tn) (bits L ln) whole_four k (omega (arith, long)) f))
      (λ j q lt. whole_t (bits T tn) (bits L ln) whole_four j (omega (arith, long)) (before j (omega arith) lt))

  module _ (upper : (k : ℕ) → 1 ≤ k → k < tn / 4 → Filled (bits T tn) k) (from : ℕ) (first : tn ≡ 0 → from ≡ 1) (some : (tn ≡ 0 → ⊥) → from ≡ 0) where
    filled_to : (n : ℕ) → ((j : ℕ) → from ≤ j → j < n → Filled (bits L ln) j) → (k : ℕ) → 0 < k → 4 * k < tn + 4 * n → Filled all k
    filled_to n lower k p h =
        filled_so (bits T tn) (bits L ln) whole_four (λ j q lt. upper j q (omega (arith, long))) n from
        (λ z. first (omega (arith, long))) (λ ne. some (λ z. ne (long ∙ z)))
        lower k p (omega (arith, long))

    hollow_l : (k : ℕ) → from ≤ k → k < ln / 4 → (Filled (bits L ln) k → ⊥) → ((j : ℕ) → from ≤ j → j < k → Filled (bits L ln) j)
        → Hollow all (tn + 4 * k) × ((q : ℕ) → q < tn + 4 * k → Hollow all q → ⊥)
    hollow_l k p h e before =
        let b = tn / 4 + k in
        let at : 4 * b ≡ tn + 4 * k = omega arith in
        let pos : 0 < b = go (cases_lt 0 tn) in
        subst (λ x. Hollow all x × ((q : ℕ) → q < x → Hollow all q → ⊥)) at
        (hollow_at all b pos (omega (arith, long_all))
        (λ f. e (part_l (bits T tn) (bits L ln) whole_four b k (omega (arith, long)) f))
        (λ j q lt. filled_to k before j q (omega arith)))
      where
        go : (0 < tn) ⊎ (tn ≤ 0) → 0 < tn / 4 + k
        go (inl s) = omega arith
        go (inr z) = omega (arith, first (omega arith))

    filled_all : ((j : ℕ) → from ≤ j → j < ln / 4 → Filled (bits L ln) j) → AllFilledBelow all
    filled_all lower k p h = filled_to (ln / 4) lower k p (omega (arith, long_all))

    -- the first in L
    pub first_in_l : (r : Option ℕ)
        → MatchOption r ((k : ℕ) → from ≤ k → k < ln / 4 → Filled (bits L ln) k)
        (λ k. (from ≤ k) × (k < ln / 4) × (Filled (bits L ln) k → ⊥) × ((j : ℕ) → from ≤ j → j < k → Filled (bits L ln) j))
        → MatchOption (option_map (λ b. tn + 4 * b) r) (AllFilledBelow all) (λ p. Hollow all p × ((q : ℕ) → q < p → Hollow all q → ⊥))
    first_in_l None f = filled_all f
    first_in_l (Some k) f = hollow_l k f.0 f.1 f.2 f.3

-- The stack of a walk, turn by turn.
use Rattle.std.proofs.Common.{◌≡◌, ℕ, zero, suc, ◌+◌, ◌-◌, ◌*◌, ◌/◌, ◌%◌, ◌^◌, ◌<◌, ◌≤◌, ◌⊎◌, List, [], ◌∷◌, length, sum_by, sym, refl, ap, subst, inl, inr, le_trans, pow-suc, arith}
use native.Mathlib.Nat.{pow-le-pow_right}
use Rattle.std.specs.List.{AllByRecursion}
use Rattle.std.proofs.ByRecursion.{All-weaker}
use Rattle.std.proofs.lemmas.List.Sums.{sum_by-cons}
use Rattle.std.proofs.lemmas.Bool.{cases_eq, cases_lt}
use Rattle.board.specs.Squares.{OnBoard}
use Rattle.board.specs.declared.square.Square.{Square}
use Rattle.board.proofs.Boards.{quarter_on_board}
use Rattle.board.specs.Limits.{parts, top}
use Rattle.search.specs.Descents.{Under, Outside, Before, starts, ends, quarter}
use Rattle.search.specs.Offers.{weight}
use Rattle.search.specs.Piles.{piled}
use Rattle.search.specs.Stacks.{from_last}
use Rattle.search.proofs.Piled.{piled_length, piled_all, piled_rest, piled_each, piled_sum}
use Rattle.search.proofs.Below.{under_quarter, under_starts, between_under, quarter-ends, quarters_follow, starts_before_ends}

-- a square on the stack, with h others below it, in a walk down to the level e that ends before the code `last`
pub record Slot (e last h : ℕ) (s : Square) : Type 0 where
  pub above : e ≤ s.level
  pub board : OnBoard s.level s.number
  pub room : h + (parts - 1) * s.level ≤ (parts - 1) * top
  pub limit : ends s ≤ last

-- the squares on the stack follow one another
abbrev pub Stacked : ℕ → ℕ → List Square → Type 0
Stacked e last [] = Unit {0}
Stacked e last (s ∷ ss) = Slot e last (length ss) s × AllByRecursion (λ r. ends s ≤ starts r) ss × Stacked e last ss

-- each square of the level e in P is done, or lies under one that waits
abbrev pub Covers : {X : Type 0} → (X → Square) → ℕ → (ℕ → Type 0) → (ℕ → Type 0) → List X → Type 0
Covers at e P D xs = (q : ℕ) → P q → AllByRecursion (λ x. Outside e q (at x)) xs → D q

-- what a walk over s has to cover: what lies in s, and what begins before s from `since` on
abbrev pub Wanted : ℕ → ℕ → Square → ℕ → Type 0
Wanted e since s q = Under e s.level s.number q ⊎ ((since ≤ q) × Before e q s)

-- what becomes of the front when t is taken: what lay under t is done, or lies under what came in its place
pub covers_next : {X : Type 0} (at : X → Square) (e : ℕ) (P D D' : ℕ → Type 0) (t : X) (xs ys : List X)
    → ((q : ℕ) → D q → D' q) → ((q : ℕ) → AllByRecursion (λ x. Outside e q (at x)) ys → AllByRecursion (λ x. Outside e q (at x)) xs)
    → ((q : ℕ) → P q → Under e (at t).level (at t).number q → AllByRecursion (λ x. Outside e q (at x)) ys → D' q)
    → Covers at e P D (t ∷ xs) → Covers at e P D' ys
covers_next at e P D D' t xs ys keep less here h q p out = go (cases_eq (q / parts ^ ((at t).level - e)) (at t).number)
  where
    go : Under e (at t).level (at t).number q ⊎ (Under e (at t).level (at t).number q → ⊥) → D' q
    go (inl u) = here q p u out
    go (inr n) = keep q (h q p (n, less q out))

abbrev pub quarters : Square → List Square → List Square
quarters t ss = piled (from_last t) parts ss

-- nothing lies under a square and outside its quarters
no_gap : (e q : ℕ) (t : Square) (ss : List Square) → e < t.level → Under e t.level t.number q → AllByRecursion (Outside e q) (quarters t ss) → ⊥
no_gap e q t ss h u out =
    let k = (q / parts ^ (t.level - 1 - e)) % parts in
    let j : parts - 1 - (parts - 1 - k) ≡ k = omega arith in
    let o = piled_each (from_last t) (Outside e q) parts ss out (parts - 1 - k) (omega arith) in
    o (subst (λ i. Under e (t.level - 1) (parts * t.number + i) q) (sym j) (under_quarter e t.level t.number q h u))

stacked_piled : (e last : ℕ) (t : Square) (ss : List Square) → e < t.level → Stacked e last (t ∷ ss) → (k : ℕ) → k ≤ parts → Stacked e last (piled (from_last t) k ss)
stacked_piled e last t ss h s zero lt = s.2
stacked_piled e last t ss h s (suc k) lt =
    let q = from_last t in
    let up : 0 < t.level = omega arith in
    let in-t : ends (q k) ≤ ends t = quarter-ends t (parts - 1 - k) up (omega arith) in (
      record {
        above = omega arith;
        board = quarter_on_board t.level t.number (parts - 1 - k) s.0.board up (omega arith);
        room = omega (arith, piled_length q k ss, s.0.room);
        limit = le_trans in-t s.0.limit;
      },
      piled_all q (λ r. ends (q k) ≤ starts r) k ss (λ j i. quarters_follow t (parts - 1 - k) (parts - 1 - j) (omega arith)) (All-weaker (λ r. ends t ≤ starts r) (λ r. ends (q k) ≤ starts r) (λ r i. le_trans in-t i) ss s.1),
      stacked_piled e last t ss h s k (omega arith),
    )

pub stacked_opens : (e last : ℕ) (t : Square) (ss : List Square) → e < t.level → Stacked e last (t ∷ ss) → Stacked e last (quarters t ss)
stacked_opens e last t ss h s = stacked_piled e last t ss h s parts (omega arith)

pub stacked_one : (e : ℕ) (s : Square) → e ≤ s.level → OnBoard s.level s.number → Stacked e (ends s) (s ∷ [])
stacked_one e s h b = (record { above = h; board = b; room = omega (arith, b.0); limit = omega arith }, tt, tt)

-- what begins before t lies in no square on the stack
before-all : (e last q : ℕ) (t : Square) (ss : List Square) → Stacked e last (t ∷ ss) → Before e q t → AllByRecursion (Outside e q) (t ∷ ss)
before-all e last q t ss s b = (λ u. omega (arith, under_starts e t.level t.number q s.0.above u), each ss s.1 s.2)
  where
    each : (rs : List Square) → AllByRecursion (λ r. ends t ≤ starts r) rs → Stacked e last rs → AllByRecursion (Outside e q) rs
    each [] h k = tt
    each (r ∷ rs) h k = (λ u. omega (arith, h.0, starts_before_ends t, under_starts e r.level r.number q k.0.above u), each rs h.1 k.2)

-- the walk comes to t in cell order
pub in_order : (e since : ℕ) (s t : Square) (ss : List Square) (D : ℕ → Type 0) → e ≤ s.level → Stacked e (ends s) (t ∷ ss) → Covers (λ r. r) e (Wanted e since s) D (t ∷ ss)
    → (q : ℕ) → since ≤ q → Before e q t → D q
in_order e since s t ss D h k c q i b = c q (go (cases_lt (q * parts ^ e) (starts s))) (before-all e (ends s) q t ss k b)
  where
    go : (q * parts ^ e < starts s) ⊎ (starts s ≤ q * parts ^ e) → Wanted e since s q
    go (inl lt) = inr (i, lt)
    go (inr ge) = inl (between_under e s.level s.number q h ge (omega (arith, k.0.limit, starts_before_ends t)))

module _ (e : ℕ) (P D D' : ℕ → Type 0) (t : Square) (ss : List Square) (keep : (q : ℕ) → D q → D' q) (c : Covers (λ r. r) e P D (t ∷ ss)) where
  pub covers_closes : ((q : ℕ) → Under e t.level t.number q → D' q) → Covers (λ r. r) e P D' ss
  covers_closes here = covers_next (λ r. r) e P D D' t ss ss keep (λ q o. o) (λ q p u o. here q u) c

  pub covers_opens : e < t.level → Covers (λ r. r) e P D' (quarters t ss)
  covers_opens h =
      covers_next (λ r. r) e P D D' t ss (quarters t ss) keep (λ q o. piled_rest (from_last t) (Outside e q) parts ss o) (λ q p u o. absurd (no_gap e q t ss h u o)) c

-- ---- the measure
pub weight_pos : (s : Square) → 0 < weight s
weight_pos s =
    let z : 0 ≤ s.level = omega arith in
    let h : (parts + 1) ^ 0 ≤ (parts + 1) ^ s.level = pow-le-pow_right (omega arith) z in
    omega arith

pub lighter_taken : {X : Type 0} (at : X → Square) (t : X) (xs : List X) → sum_by (λ x. weight (at x)) xs < sum_by (λ x. weight (at x)) (t ∷ xs)
lighter_taken at t xs = omega (arith, sum_by-cons (λ x. weight (at x)) t xs, weight_pos (at t))

-- the weight of a quarter is a fifth
pub fifth : (t : Square) → 0 < t.level → (parts + 1) * (parts + 1) ^ (t.level - 1) ≡ weight t
fifth t h =
    let e : t.level ≡ suc (t.level - 1) = omega arith in
    omega (arith, ap (λ x. (parts + 1) ^ x) e, pow-suc (parts + 1) (t.level - 1))

pub lighter_open : (t : Square) (ss : List Square) → 0 < t.level → sum_by weight (quarters t ss) < sum_by weight (t ∷ ss)
lighter_open t ss h =
    omega (arith, piled_sum (from_last t) weight ((parts + 1) ^ (t.level - 1)) parts ss (λ j. refl), sum_by-cons weight t ss, weight_pos (quarter t 0), fifth t h)

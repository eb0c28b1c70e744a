-- What holds of things put on a list one by one.
use Rattle.std.proofs.Common.{◌≡◌, ℕ, zero, suc, ◌+◌, ◌*◌, ◌<◌, List, length, sum_by, sym, subst, ⊎_elim, suc-mul, arith}
use Rattle.std.specs.List.{AllByRecursion}
use Rattle.std.proofs.lemmas.List.Sums.{sum_by-cons}
use Rattle.std.proofs.lemmas.Bool.{cases_eq}
use Rattle.search.specs.Piles.{piled}

module _ {X : Type 0} (f : ℕ → X) where
  pub piled_length : (k : ℕ) (xs : List X) → length (piled f k xs) ≡ k + length xs
  piled_length zero xs = omega arith
  piled_length (suc k) xs = let h = piled_length k xs in omega arith

  pub piled_all : (P : X → Type 0) (k : ℕ) (xs : List X) → ((j : ℕ) → j < k → P (f j)) → AllByRecursion P xs → AllByRecursion P (piled f k xs)
  piled_all P zero xs each rest = rest
  piled_all P (suc k) xs each rest = (each k (omega arith), piled_all P k xs (λ j h. each j (omega arith)) rest)

  pub piled_rest : (P : X → Type 0) (k : ℕ) (xs : List X) → AllByRecursion P (piled f k xs) → AllByRecursion P xs
  piled_rest P zero xs h = h
  piled_rest P (suc k) xs h = piled_rest P k xs h.1

  pub piled_each : (P : X → Type 0) (k : ℕ) (xs : List X) → AllByRecursion P (piled f k xs) → (j : ℕ) → j < k → P (f j)
  piled_each P zero xs h j lt = absurd (omega arith)
  piled_each P (suc k) xs h j lt = ⊎_elim (λ e. subst (λ i. P (f i)) (sym e) h.0) (λ n. piled_each P k xs h.1 j (omega arith)) (cases_eq j k)

  pub piled_sum : (g : X → ℕ) (w : ℕ) (k : ℕ) (xs : List X) → ((j : ℕ) → g (f j) ≡ w) → sum_by g (piled f k xs) ≡ k * w + sum_by g xs
  piled_sum g w zero xs each = omega arith
  piled_sum g w (suc k) xs each = omega (arith, sum_by-cons g (f k) (piled f k xs), piled_sum g w k xs each, each k, suc-mul k w)

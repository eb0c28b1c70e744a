use Rattle.std.proofs.Common.{◌≡◌, ℕ, ◌*◌, ◌/◌, ◌%◌, ◌^◌, ◌<◌, ◌≤◌, false, eqb, [], ◌∷◌, get_or, refl, ap, ◌∙◌, arith, lit<, lit≤, pow_pos}
use native.Mathlib.Nat.{div-eq_of_lt}
use Rattle.tree.specs.Bitmaps.{bit, demanded, below}
use Rattle.tree.specs.Reader.{ones_before}
use Rattle.tree.proofs.reader.Tree.empty.Goals as goal

no-bit : (p : ℕ) → p < 8 → bit (0 ∷ []) p ≡ false
no-bit p h =
    let k : p / 8 ≡ 0 = omega arith in
    ap (λ k. eqb (get_or (0 ∷ []) k 0 / 2 ^ (p % 8) % 2) 1) k ∙ ap (λ x. eqb (x % 2) 1) (div-eq_of_lt (pow_pos (p % 8)))

no_count : (j : ℕ) → j ≤ 0 → get_or (0 ∷ []) j 0 ≡ ones_before [] (512 * j)
no_count ℕ.zero h = refl
no_count (ℕ.suc j) h = absurd (omega arith)

pub invariant_of-result-3 : goal.invariant_of-result-3
unfolding demanded
invariant_of-result-3 c = record {
  low = lit≤ tt;
  upper_spare = λ p h k. absurd (omega arith);
  lower_spare = λ p h k. no-bit p k;
  valid = (lit< tt, (refl, refl), λ k p h. absurd (omega arith));
  counted = (lit< tt, no_count);
}

pub returns : goal.returns
unfolding below
returns c = record { no_cell = refl }

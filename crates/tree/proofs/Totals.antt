-- Sums of the first so many numbers.
use Rattle.std.proofs.Common.{◌≡◌, ℕ, zero, suc, ◌+◌, refl, ap, arith}

-- the sum of the first k
unfoldable pub total : (ℕ → ℕ) → ℕ → ℕ
total f zero = 0
total f (suc k) = total f k + f k

pub total_none : (f : ℕ → ℕ) → total f 0 ≡ 0
unfolding total
total_none f = refl

pub total_more : (f : ℕ → ℕ) (k : ℕ) → total f (k + 1) ≡ total f k + f k
unfolding total
total_more f k = let e : k + 1 ≡ suc k = omega arith in ap (total f) e

-- What lies in a square lies in one of its quarters, and between its ends.
use Rattle.std.proofs.Common.{◌≡◌, ℕ, zero, suc, ◌+◌, ◌-◌, ◌*◌, ◌/◌, ◌%◌, ◌^◌, ◌<◌, ◌≤◌, sym, ap, ◌∙◌, subst, mul-le-mul_right, mul_assoc, suc-mul, mul_comm, lt_of_mul-lt-mul_right, mul-le-mul_left, pow-suc, zero-add, div-mul-le_self, le_of_mul-le-mul_right, div-one, arith, pow-add}
use native.Mathlib.Nat.{div-div-eq-div-mul}
use Rattle.std.proofs.lemmas.Nat.{div-mul-add}
use Rattle.board.specs.Squares.{OnBoard}
use Rattle.board.specs.declared.square.Square.{Square}
use Rattle.board.proofs.Boards.{code_fits}
use Rattle.board.specs.SquareOrderFacts.{four_positive}
use Rattle.board.specs.Limits.{parts, top, codes}
use Rattle.search.specs.Descents.{Under, Before, starts, ends, quarter}

pub square_is : (q s : Square) (k : ℕ) → q.level + 1 ≡ s.level → q.number ≡ parts * s.number + k → q ≡ quarter s k
square_is q s k e n =
    let l : q.level ≡ s.level - 1 = omega arith in
    (λ i. record { level = l i; number = n i })

-- what lies under a square lies under one of its quarters
pub under_quarter : (e m n q : ℕ) → e < m → Under e m n q → Under e (m - 1) (parts * n + (q / parts ^ (m - 1 - e)) % parts) q
under_quarter e m n q h u =
    let x = m - 1 - e in
    let i : m - e ≡ suc x = omega arith in
    let f : parts ^ (m - e) ≡ parts ^ x * parts = ap (λ y. parts ^ y) i ∙ pow-suc parts x in
    let d : q / parts ^ x / parts ≡ n = div-div-eq-div-mul q (parts ^ x) parts ∙ ap (λ y. q / y) (sym f) ∙ u in
    omega arith

-- what goes from each square to its quarters goes down to all that lies under it
down : (l q : ℕ) (Q : ℕ → ℕ → Type 0) → ((m n k : ℕ) → l ≤ m → m < top → k < parts → Q (m + 1) n → Q m (parts * n + k))
    → (d n : ℕ) → d + l ≤ top → q / parts ^ d ≡ n → Q (d + l) n → Q l q
down l q Q step zero n b u h =
    let e : q ≡ n = sym (div-one q) ∙ u in
    subst (Q l) (sym e) (subst (λ m. Q m n) (zero-add l) h)
down l q Q step (suc d) n b u h =
    let s : suc d + l ≡ d + l + 1 = omega arith in
    let k = (q / parts ^ d) % parts in
    let v : q / parts ^ d / parts ≡ n = div-div-eq-div-mul q (parts ^ d) parts ∙ ap (λ y. q / y) (sym (pow-suc parts d)) ∙ u in
    down l q Q step d (parts * n + k) (omega arith) (omega arith) (step (d + l) n k (omega arith) (omega arith) (omega arith) (subst (λ m. Q m n) s h))

pub under_down : (l q : ℕ) (Q : ℕ → ℕ → Type 0) → ((m n k : ℕ) → l ≤ m → m < top → k < parts → Q (m + 1) n → Q m (parts * n + k))
    → (m n : ℕ) → l ≤ m → m ≤ top → Under l m n q → Q m n → Q l q
under_down l q Q step m n h b u z =
    let e : m ≡ m - l + l = omega arith in
    down l q Q step (m - l) n (omega arith) u (subst (λ x. Q x n) e z)

-- a power of the higher level, by way of the lower
split : (e m : ℕ) → e ≤ m → parts ^ m ≡ parts ^ (m - e) * parts ^ e
split e m h = let s : m ≡ m - e + e = omega arith in ap (λ x. parts ^ x) s ∙ pow-add parts (m - e) e

scaled : (e m n : ℕ) → e ≤ m → n * parts ^ m ≡ n * parts ^ (m - e) * parts ^ e
scaled e m n h = ap (λ x. n * x) (split e m h) ∙ sym (mul_assoc n (parts ^ (m - e)) (parts ^ e))

-- what lies under a square begins between its ends
pub under_starts : (e m n q : ℕ) → e ≤ m → Under e m n q → n * parts ^ m ≤ q * parts ^ e
under_starts e m n q h u =
    let d = parts ^ (m - e) in
    let a : n * d ≤ q = subst (λ x. x * d ≤ q) u (div-mul-le_self q d) in
    omega (arith, mul-le-mul_right (parts ^ e) a, scaled e m n h)

-- what begins between the ends of a square lies under it
pub between_under : (e m n q : ℕ) → e ≤ m → n * parts ^ m ≤ q * parts ^ e → q * parts ^ e < (n + 1) * parts ^ m → Under e m n q
between_under e m n q h low high =
    let d = parts ^ (m - e) in
    let a : n * d ≤ q = le_of_mul-le-mul_right {k = parts ^ e} (omega (arith, scaled e m n h)) (four_positive e) in
    let b : q < (n + 1) * d = lt_of_mul-lt-mul_right (parts ^ e) (omega (arith, scaled e m (n + 1) h)) in
    let e1 : n + 1 ≡ suc n = omega arith in
    let lt : q - n * d < d = omega (arith, suc-mul n d, ap (λ x. x * d) e1) in
    let is : q ≡ n * d + (q - n * d) = omega arith in
    ap (λ x. x / d) is ∙ div-mul-add n d (q - n * d) lt

-- the ends of a quarter lie between those of its square
above_one : (m : ℕ) → 0 < m → parts ^ m ≡ parts * parts ^ (m - 1)
above_one m h = let s : m ≡ suc (m - 1) = omega arith in ap (λ x. parts ^ x) s ∙ pow-suc parts (m - 1) ∙ mul_comm (parts ^ (m - 1)) parts

pub quarter-ends : (s : Square) (k : ℕ) → 0 < s.level → k < parts → ends (quarter s k) ≤ ends s
quarter-ends s k h lt =
    let d = parts ^ (s.level - 1) in
    let a : parts * s.number + k + 1 ≤ (s.number + 1) * parts = omega arith in
    omega (arith, mul-le-mul_right d a, mul_assoc (s.number + 1) parts d, ap (λ x. (s.number + 1) * x) (above_one s.level h))

-- the quarters follow one another
pub quarters_follow : (s : Square) (j k : ℕ) → j < k → ends (quarter s j) ≤ starts (quarter s k)
quarters_follow s j k lt =
    let a : parts * s.number + j + 1 ≤ parts * s.number + k = omega arith in
    mul-le-mul_right (parts ^ (s.level - 1)) a

pub starts_before_ends : (s : Square) → starts s < ends s
starts_before_ends s =
    let d = parts ^ s.level in
    let e1 : s.number + 1 ≡ suc s.number = omega arith in
    omega (arith, suc-mul s.number d, ap (λ x. x * d) e1, four_positive s.level)

-- nothing on the board begins behind the last code
pub never_behind : (e q : ℕ) (s : Square) → OnBoard s.level s.number → codes ≤ q → Before e q s → ⊥
never_behind e q s b h lt =
    let p : 1 ≤ parts ^ e = four_positive e in
    let z : q * 1 ≤ q * parts ^ e = mul-le-mul_left q p in
    omega (arith, code_fits s.level s.number b)

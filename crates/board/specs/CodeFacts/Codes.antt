-- Codes are exact, and what a larger square's number says of its place.
use Rattle.std.proofs.Common.{◌≡◌, ℕ, zero, suc, ◌+◌, ◌*◌, ◌/◌, ◌%◌, ◌^◌, ◌<◌, ◌≤◌, sym, ap, ◌∙◌, ap₂, lt_of_lt_of_le, mod-eq_of_lt, mul_comm, pow-suc, div-one, arith}
use native.Mathlib.Nat.{div-div-eq-div-mul, pow-le-pow_right}
use lib.Bits.{bit_or}
use Rattle.board.specs.Morton.{bit, digits, x_of, y_of, code, Interleaved, CodesAreExact}
use Rattle.board.specs.CodeFacts.Words.{half_bit}
use Rattle.board.specs.CodeFacts.Digits.{evens, spaced, digits_lt, digits_step, digits-all, lt-pow, evens_one, evens_two, spaced-evens, spaced_third, spaced-or, evens_bit}

quot_quot : (n a b : ℕ) → n / a / b ≡ n / b / a
quot_quot n a b = div-div-eq-div-mul n a b ∙ ap (λ (m : ℕ). n / m) (mul_comm a b) ∙ sym (div-div-eq-div-mul n b a)

quot_pow : (n d k : ℕ) → n / d ^ suc k ≡ n / d ^ k / d
quot_pow n d k = ap (λ (m : ℕ). n / m) (pow-suc d k) ∙ sym (div-div-eq-div-mul n (d ^ k) d)

-- ---- columns and rows by k digits

pub x_all : (k n : ℕ) → n < 4 ^ k → x_of n ≡ evens k n
x_all k n h = digits-all 4 2 k n (omega arith) h

spaced-all : (k x : ℕ) → x < 2 ^ k → digits 2 4 x x ≡ spaced k x
spaced-all k x h = digits-all 2 4 k x (omega arith) h

x_limited : (k n : ℕ) → n < 4 ^ k → x_of n < 2 ^ k
x_limited k n h = rw (x_all k n h) (digits_lt 4 2 k n (omega arith))

code-all : (k x y : ℕ) → x < 2 ^ k → y < 2 ^ k → code x y ≡ spaced k x + 2 * spaced k y
code-all k x y h g = ap₂ (λ (s t : ℕ). s + 2 * t) (spaced-all k x h) (spaced-all k y g)

code_limited : (k x y : ℕ) → x < 2 ^ k → y < 2 ^ k → code x y < 4 ^ k
code_limited k x y h g = omega (arith, code-all k x y h g, spaced_third k x, spaced_third k y)

column : (k x y : ℕ) → x < 2 ^ k → y < 2 ^ k → x_of (code x y) ≡ x
column k x y h g = x_all k (code x y) (code_limited k x y h g) ∙ ap (evens k) (code-all k x y h g) ∙ evens_one k x y h

row : (k x y : ℕ) → x < 2 ^ k → y < 2 ^ k → y_of (code x y) ≡ y
row k x y h g =
    x_all k (code x y / 2) (omega (arith, code_limited k x y h g)) ∙ ap (λ (m : ℕ). evens k (m / 2)) (code-all k x y h g) ∙ evens_two k x y g

pub back : (n : ℕ) → code (x_of n) (y_of n) ≡ n
back n =
    let lt = lt-pow 4 n (omega arith) in
    let half : n / 2 < 4 ^ n = omega arith in
    code-all n (x_of n) (y_of n) (x_limited n n lt) (x_limited n (n / 2) half)
    ∙ ap₂ (λ (s t : ℕ). spaced n s + 2 * spaced n t) (x_all n n lt) (x_all n (n / 2) half) ∙ spaced-evens n n lt

-- x and y have no more bits than this
under : (x y : ℕ) → (x < 2 ^ (x + y)) × (y < 2 ^ (x + y))
under x y =
    let a : x ≤ x + y = omega arith in
    let b : y ≤ x + y = omega arith in
    let two : 0 < 2 = omega arith in
    (lt_of_lt_of_le (lt-pow 2 x (omega arith)) (pow-le-pow_right two a), lt_of_lt_of_le (lt-pow 2 y (omega arith)) (pow-le-pow_right two b))

-- ---- quarters and larger squares

first-digit : (k n : ℕ) → n < 4 ^ suc k → x_of n ≡ n % 2 + 2 * evens k (n / 4)
first-digit k n h = x_all (suc k) n h ∙ digits_step 4 2 k n

quarter : (n q : ℕ) → q < 4 → x_of (4 * n + q) ≡ 2 * x_of n + q % 2
quarter n q h =
    let lt = lt-pow 4 n (omega arith) in
    let e : (4 * n + q) / 4 ≡ n = omega arith in
    let up : 4 * n + q < 4 ^ suc n = rw (pow-suc 4 n) (omega arith) in
    omega (arith, first-digit n (4 * n + q) up, ap (evens n) e)

halved : (n : ℕ) → x_of (n / 4) ≡ x_of n / 2
halved n = let q : n % 4 < 4 = omega arith in let e : 4 * (n / 4) + n % 4 ≡ n = omega arith in omega (arith, quarter (n / 4) (n % 4) q, ap (λ (m : ℕ). x_of m) e)

-- the place of the square around, by 2 ^ k times larger
pub x_outer : (n k : ℕ) → x_of (n / 4 ^ k) ≡ x_of n / 2 ^ k
x_outer n zero = rw (div-one n, div-one (x_of n))
x_outer n (suc k) = rw (quot_pow n 4 k, quot_pow (x_of n) 2 k, ← x_outer n k) (halved (n / 4 ^ k))

pub y_outer : (n k : ℕ) → y_of (n / 4 ^ k) ≡ y_of n / 2 ^ k
y_outer n k = ap (λ (m : ℕ). x_of m) (quot_quot n (4 ^ k) 2) ∙ x_outer (n / 2) k

pub x_lt : (n : ℕ) → n < 2 ^ 32 → x_of n < 2 ^ 16
x_lt n h = x_limited 16 n h

pub y_lt : (n : ℕ) → n < 2 ^ 32 → y_of n < 2 ^ 16
y_lt n h = x_limited 16 (n / 2) (omega arith)

-- bit 2i of n is bit i of its column
even_bit : (n i : ℕ) → bit n (2 * i) ≡ bit (x_of n) i
even_bit n i =
    let p : suc i ≤ n + suc i = omega arith in
    let q : n ≤ n + suc i = omega arith in
    let four : 0 < 4 = omega arith in
    evens_bit (n + suc i) n i p ∙ ap (λ (m : ℕ). bit m i) (sym (x_all (n + suc i) n (lt_of_lt_of_le (lt-pow 4 n (omega arith)) (pow-le-pow_right four q))))

-- a number has the bits of its column and its row by turns
pub interleaved_of : (n : ℕ) → Interleaved (x_of n) (y_of n) n
interleaved_of n = record {
  even = λ i. even_bit n i;
  odd = λ i. ap (bit n) (let e : 2 * i + 1 ≡ suc (2 * i) = omega arith in e) ∙ sym (half_bit n (2 * i)) ∙ even_bit (n / 2) i;
}

-- spread(x) | spread(y) << 1
pub woven : (x y : ℕ) → x < 2 ^ 16 → y < 2 ^ 16 → bit_or (digits 2 4 x x) (digits 2 4 y y * 2 % 2 ^ 32) ≡ code x y
woven x y h g =
    let s = spaced-all 16 x h in
    let t = spaced-all 16 y g in
    let e : digits 2 4 y y * 2 % 2 ^ 32 ≡ spaced 16 y * 2 = ap (λ (m : ℕ). m * 2 % 2 ^ 32) t ∙ mod-eq_of_lt (omega (arith, spaced_third 16 y)) in
    ap₂ bit_or s e ∙ omega (arith, spaced-or 16 x y)

pub codes_are_exact : CodesAreExact
codes_are_exact = record {
  interleaved = λ x y.
      let e = column (x + y) x y (under x y).0 (under x y).1 in
      let f = row (x + y) x y (under x y).0 (under x y).1 in
      rw (e, f) at (interleaved_of (code x y));
  column = λ x y. column (x + y) x y (under x y).0 (under x y).1;
  row = λ x y. row (x + y) x y (under x y).0 (under x y).1;
  back = back;
  quarter_column = quarter;
  quarter_row = λ n q h.
      let e : (4 * n + q) / 2 ≡ 4 * (n / 2) + (2 * (n % 2) + q / 2) = omega arith in
      ap (λ (m : ℕ). x_of m) e ∙ quarter (n / 2) (2 * (n % 2) + q / 2) (omega arith) ∙ omega arith;
  code_limited = code_limited;
  column_limited = x_limited;
  row_limited = λ k n h. x_limited k (n / 2) (omega arith);
}

-- Squares on the board, their quarters and their first cells.
use Rattle.std.proofs.Common.{◌≡◌, ℕ, zero, suc, ◌+◌, ◌-◌, ◌*◌, ◌/◌, ◌^◌, ◌<◌, ◌≤◌, min, sym, refl, ap, ◌∙◌, subst, ⊎_elim, mul-lt-mul_of_pos_right, pow-suc, div-mul-le_self, mul-div_cancel, arith, pow-add}
use native.Mathlib.Nat.{pow-le-pow_right, div-eq_of_lt}
use Rattle.std.proofs.lemmas.Bool.{cases_lt}
use Rattle.board.specs.SquareOrderFacts.{four_positive}
use Rattle.board.specs.Squares.{OnBoard, Inside}

-- the quarters of a square on the board are on it
pub quarter_on_board : (m n k : ℕ) → OnBoard m n → 1 ≤ m → k < 4 → OnBoard (m - 1) (4 * n + k)
quarter_on_board m n k b p h =
    let e : 16 - (m - 1) ≡ suc (16 - m) = omega arith in
    let f : 4 ^ (16 - (m - 1)) ≡ 4 ^ (16 - m) * 4 = ap (λ x. 4 ^ x) e ∙ pow-suc 4 (16 - m) in
    (omega arith, omega arith)

pub number_fits : (m n : ℕ) → OnBoard m n → n < 2 ^ 32
number_fits m n b =
    let h : 16 - m ≤ 16 = omega arith in
    let g : 4 ^ (16 - m) ≤ 4 ^ 16 = pow-le-pow_right (omega arith) h in
    omega arith

-- the first cell of a square on the board is on it
pub code_fits : (m n : ℕ) → OnBoard m n → n * 4 ^ m < 2 ^ 32
code_fits m n b =
    let h : n * 4 ^ m < 4 ^ (16 - m) * 4 ^ m = mul-lt-mul_of_pos_right b.1 (four_positive m) in
    let e : 4 ^ (16 - m) * 4 ^ m ≡ 4 ^ (16 - m + m) = sym (pow-add 4 (16 - m) m) in
    let f : 16 - m + m ≡ 16 = omega arith in
    omega (arith, ap (λ x. 4 ^ x) f)

pub four_power : (m : ℕ) → 2 ^ (2 * m) ≡ 4 ^ m
four_power zero = refl
four_power (suc m) =
    let e : 2 * suc m ≡ suc (suc (2 * m)) = omega arith in
    omega (arith, ap (λ x. 2 ^ x) e, pow-suc 2 (suc (2 * m)), pow-suc 2 (2 * m), pow-suc 4 m, four_power m)

-- the first cell of a square is one of its cells, and no later than the others
pub first_inside : (m n : ℕ) → Inside m n (n * 4 ^ m)
first_inside m n = mul-div_cancel n (four_positive m)

pub first-least : (m n c : ℕ) → Inside m n c → n * 4 ^ m ≤ c
first-least m n c u = subst (λ x. x * 4 ^ m ≤ c) u (div-mul-le_self c (4 ^ m))

-- above the board's level every code comes to 0
pub cut_level : (c l k : ℕ) → c < 2 ^ 32 → k ≡ min l 16 → c / 2 ^ (2 * k) ≡ c / 4 ^ l
cut_level c l k h e =
    ⊎_elim
    (λ g.
    let d : k ≡ 16 = omega arith in
    let t : 16 ≤ l = omega arith in
    let w : 4 ^ 16 ≤ 4 ^ l = pow-le-pow_right (omega arith) t in
    ap (λ x. c / 2 ^ (2 * x)) d ∙ (let z : c / 2 ^ 32 ≡ 0 = div-eq_of_lt h in z) ∙ sym (div-eq_of_lt (omega arith)))
    (λ g. let d : k ≡ l = omega arith in ap (λ x. c / 2 ^ (2 * x)) d ∙ ap (λ x. c / x) (four_power l))
    (cases_lt 16 l)

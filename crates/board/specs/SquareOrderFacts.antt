-- The order of squares: why it is as it is said to be.
use Rattle.std.proofs.Common.{◌≡◌, ◌==◌, ◌&&◌, is_eq, ℕ, ◌*◌, ◌^◌, ◌<◌, ◌≤◌, min, Equal, sym, ap, ◌∙◌, ap₂, le_of_mul-le-mul_right, le_trans, arith}
use native.Mathlib.Nat.{pow-le-pow_right}
use Rattle.std.specs.Ordering.{nat_cmp, ordering_then}
use Rattle.board.specs.Limits.{parts, top}
use Rattle.board.specs.OrderFacts.{less, tied, untied, both_tie, ties_where_equal, squares_equal}
use Rattle.board.specs.SquareOrder.{first_code, by_place, squares_total, SquaresAreOrdered}
use Rattle.board.specs.declared.square.Square.{Square}

pub four_positive : (m : ℕ) → 0 < 4 ^ m
four_positive m = le_trans (omega arith) (pow-le-pow_right {n = 4} (omega arith) {i = 0} {j = m} (omega arith))

-- squares of one level with one first cell are one square
one_number : (m n l k : ℕ) → l ≡ k → m * parts ^ min l top ≡ n * parts ^ min k top → m ≡ n
one_number m n l k e h =
    let c : m * parts ^ min l top ≡ n * parts ^ min l top = h ∙ ap (λ x. n * parts ^ min x top) (sym e) in
    let p : 0 < parts ^ min l top = four_positive (min l top) in
    let a : m ≤ n = le_of_mul-le-mul_right {k = parts ^ min l top} (omega arith) p in
    let b : n ≤ m = le_of_mul-le-mul_right {k = parts ^ min l top} (omega arith) p in
    omega arith

same : (x y : Square) → by_place x y ≡ Equal → x ≡ y
same x y e =
    let b = both_tie (nat_cmp (first_code x) (first_code y)) (nat_cmp y.level x.level) e in
    let level : x.level ≡ y.level = sym (untied y.level x.level b.1) in
    let number : x.number ≡ y.number = one_number x.number y.number x.level y.level level (untied (first_code x) (first_code y) b.0) in
    ap₂ (λ (l n : ℕ). let s : Square = record { level = l; number = n } in s) level number

pub squares_are_ordered : SquaresAreOrdered
squares_are_ordered = record {
  total = squares_total;
  by_first_code = λ x y h. ap (λ o. ordering_then o (nat_cmp y.level x.level)) (less (first_code x) (first_code y) h);
  by_level = λ x y e h. ap₂ ordering_then (tied (first_code x) (first_code y) e) (less y.level x.level h);
  no_two_equal = same;
}

-- the order ties just where `==` answers true
pub square_ties : (x y : Square) → ((x.level == y.level) && (x.number == y.number)) ≡ is_eq (by_place x y)
square_ties = ties_where_equal squares_total squares_equal same

-- squares with one first cell and of one level rank alike
pub one_place : (x y : Square) → first_code x ≡ first_code y → y.level ≡ x.level → by_place x y ≡ Equal
one_place x y e f = ap₂ ordering_then (tied (first_code x) (first_code y) e) (tied y.level x.level f)

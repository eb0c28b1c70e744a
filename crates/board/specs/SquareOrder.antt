-- The order of squares: by the code of the first cell, the larger square first.
use Rattle.std.specs.Prelude.{◌≡◌, ℕ, ◌*◌, ◌^◌, ◌<◌, min}
use Rattle.std.specs.declared.cmp.Ordering.TheVariants.{Less, Equal}
use Rattle.std.specs.declared.cmp.Ordering.{Ordering}
use Rattle.std.specs.Cmp.{IsTotalOrder, nat_cmp_total, then_total, on_total, back_total}
use Rattle.std.specs.Ordering.{nat_cmp, then_cmp, on, flip_args}
use Rattle.board.specs.Limits.{top, parts}
use Rattle.board.specs.declared.square.Square.{Square}

-- the code of the first cell; a level above the board's counts as the board's
abbrev pub first_code : Square → ℕ
first_code s = s.number * parts ^ min s.level top

-- how x ranks beside y
abbrev pub by_place : Square → Square → Ordering
by_place = then_cmp (on first_code nat_cmp) (flip_args (on (λ s. s.level) nat_cmp))

abbrev pub squares_total : IsTotalOrder by_place
squares_total = then_total (on_total first_code nat_cmp_total) (back_total (on_total (λ (s : Square). s.level) nat_cmp_total))

-- it is a total order, it goes by the first code and then by the level, the highest first, and calls no two squares equal
pub record SquaresAreOrdered : Type 0 where
  pub total : IsTotalOrder by_place
  pub by_first_code : (x y : Square) → first_code x < first_code y → by_place x y ≡ Less
  pub by_level : (x y : Square) → first_code x ≡ first_code y → y.level < x.level → by_place x y ≡ Less
  pub no_two_equal : (x y : Square) → by_place x y ≡ Equal → x ≡ y

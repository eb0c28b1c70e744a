-- The order of neighbours: the smaller amount first, then the smaller first code, then the larger square.
use Rattle.std.specs.Prelude.{◌≡◌, ℕ, ◌<◌}
use Rattle.std.specs.declared.cmp.Ordering.TheVariants.{Less, Equal}
use Rattle.std.specs.declared.cmp.Ordering.{Ordering}
use Rattle.std.specs.Cmp.{IsTotalOrder, nat_cmp_total, then_total, on_total}
use Rattle.std.specs.Ordering.{nat_cmp, then_cmp, on}
use Rattle.board.specs.SquareOrder.{by_place, squares_total}
use Rattle.board.specs.SquareOrder.{first_code as start_of}
use Rattle.search.specs.declared.neighbour.Neighbour.{Neighbour}

-- the code of the first cell; a level above the board's counts as the board's
abbrev pub first_code : Neighbour → ℕ
first_code x = start_of x.square

-- how x ranks beside y: by the amount, then by the place of the square
abbrev pub before : Neighbour → Neighbour → Ordering
before = then_cmp (on (λ (x : Neighbour). x.amount) nat_cmp) (on (λ (x : Neighbour). x.square) by_place)

-- the order that lists of neighbours keep
abbrev pub ordered : Neighbour → Neighbour → Ordering
ordered = before

-- it is a total order
abbrev pub neighbours : IsTotalOrder before
neighbours = then_total (on_total (λ (x : Neighbour). x.amount) nat_cmp_total) (on_total (λ (x : Neighbour). x.square) squares_total)

-- it goes by the amount, then by the first code, then by the level, the highest first; and calls no two neighbours equal
pub record NeighboursAreOrdered : Type 0 where
  pub total : IsTotalOrder before
  pub by_amount : (x y : Neighbour) → x.amount < y.amount → before x y ≡ Less
  pub by_first_code : (x y : Neighbour) → x.amount ≡ y.amount → first_code x < first_code y → before x y ≡ Less
  pub by_level : (x y : Neighbour) → x.amount ≡ y.amount → first_code x ≡ first_code y → y.square.level < x.square.level → before x y ≡ Less
  pub no_two_equal : (x y : Neighbour) → before x y ≡ Equal → x ≡ y

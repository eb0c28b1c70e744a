-- Cell order: the order of codes.
use Rattle.std.specs.Prelude.{◌≡◌, ◌<◌}
use Rattle.std.specs.declared.cmp.Ordering.{Ordering}
use Rattle.std.specs.Cmp.{IsTotalOrder}
use Rattle.std.specs.Ordering.{MatchOrdering, nat_cmp}
use Rattle.board.specs.Morton.{code}
use Rattle.board.specs.declared.cell.Cell.{Cell}

-- how the code of x ranks beside the code of y
abbrev pub by_code : Cell → Cell → Ordering
by_code x y = nat_cmp (code x.x x.y) (code y.x y.y)

-- it is a total order, a cell comes before another where its code is smaller, and is equal to itself alone
pub record CellOrderIsCodeOrder : Type 0 where
  pub total : IsTotalOrder by_code
  pub ranks : (x y : Cell) → MatchOrdering (by_code x y) (code x.x x.y < code y.x y.y) (x ≡ y) (code y.x y.y < code x.x x.y)

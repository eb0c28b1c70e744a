-- The order of neighbours: why it is as it is said to be.
use Rattle.std.proofs.Common.{◌≡◌, ℕ, Equal, ap, ap₂}
use Rattle.std.specs.Ordering.{ordering_then, nat_cmp}
use Rattle.board.specs.OrderFacts.{less, tied, untied, both_tie}
use Rattle.board.specs.SquareOrder.{by_place}
use Rattle.board.specs.SquareOrderFacts.{squares_are_ordered}
use Rattle.board.specs.declared.square.Square.{Square}
use Rattle.search.specs.declared.neighbour.Neighbour.{Neighbour}
use Rattle.search.specs.Neighbours.{before, neighbours, NeighboursAreOrdered}

same : (x y : Neighbour) → before x y ≡ Equal → x ≡ y
same x y e =
    let b = both_tie (nat_cmp x.amount y.amount) (by_place x.square y.square) e in
    let amount : x.amount ≡ y.amount = untied x.amount y.amount b.0 in
    let square : x.square ≡ y.square = squares_are_ordered.no_two_equal x.square y.square b.1 in
    ap₂ (λ (a : ℕ) (s : Square). let z : Neighbour = record { amount = a; square = s } in z) amount square

pub neighbours_are_ordered : NeighboursAreOrdered
neighbours_are_ordered = record {
  total = neighbours;
  by_amount = λ x y h. ap (λ o. ordering_then o (by_place x.square y.square)) (less x.amount y.amount h);
  by_first_code = λ x y e h. ap₂ ordering_then (tied x.amount y.amount e) (squares_are_ordered.by_first_code x.square y.square h);
  by_level = λ x y e f h. ap₂ ordering_then (tied x.amount y.amount e) (squares_are_ordered.by_level x.square y.square f h);
  no_two_equal = same;
}

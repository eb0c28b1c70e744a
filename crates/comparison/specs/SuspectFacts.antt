-- The order of suspects: why it is as it is said to be.
use Rattle.std.proofs.Common.{◌≡◌, ◌==◌, ◌&&◌, is_eq, ℕ, Equal, sym, ap, ◌∙◌, ap₂}
use Rattle.std.specs.Ordering.{ordering_then, nat_cmp}
use Rattle.std.proofs.lemmas.Bool.Decides.{Decides-and, Decides-eqb, Decides-like}
use Rattle.board.specs.OrderFacts.{less, tied, untied, both_tie, ties_where_equal, squares_equal}
use Rattle.board.specs.SquareOrder.{by_place}
use Rattle.board.specs.SquareOrderFacts.{one_place, squares_are_ordered}
use Rattle.board.specs.declared.square.Square.{Square}
use Rattle.comparison.specs.declared.suspect.Suspect.{Suspect}
use Rattle.comparison.specs.Suspects.{before, suspects, SuspectsAreOrdered}

pub same : (x y : Suspect) → before x y ≡ Equal → x ≡ y
same x y e =
    let b = both_tie (ordering_then (nat_cmp y.key x.key) (by_place x.square y.square)) (nat_cmp x.partner y.partner) e in
    let a = both_tie (nat_cmp y.key x.key) (by_place x.square y.square) b.0 in
    let key : x.key ≡ y.key = sym (untied y.key x.key a.0) in
    let square : x.square ≡ y.square = squares_are_ordered.no_two_equal x.square y.square a.1 in
    let partner : x.partner ≡ y.partner = untied x.partner y.partner b.1 in
    ap₂ (λ (k : ℕ) (s : Square). let z : Suspect = record { key = k; square = s; partner = x.partner } in z) key square
    ∙ ap (λ (p : ℕ). let z : Suspect = record { key = y.key; square = y.square; partner = p } in z) partner

pub suspects_are_ordered : SuspectsAreOrdered
suspects_are_ordered = record {
  total = suspects;
  by_key = λ x y h. ap (λ o. ordering_then (ordering_then o (by_place x.square y.square)) (nat_cmp x.partner y.partner)) (less y.key x.key h);
  by_first_code = λ x y e h.
      ap₂ (λ o p. ordering_then (ordering_then o p) (nat_cmp x.partner y.partner)) (tied y.key x.key e) (squares_are_ordered.by_first_code x.square y.square h);
  by_level = λ x y e f h.
      ap₂ (λ o p. ordering_then (ordering_then o p) (nat_cmp x.partner y.partner)) (tied y.key x.key e) (squares_are_ordered.by_level x.square y.square f h);
  by_partner = λ x y e f g h.
      ap₂ ordering_then (ap₂ ordering_then (tied y.key x.key e) (one_place x.square y.square f g)) (less x.partner y.partner h);
  no_two_equal = same;
}

-- the order ties just where `==` answers true
pub ties : (x y : Suspect) → ((x.key == y.key) && (((x.square.level == y.square.level) && (x.square.number == y.square.number)) && (x.partner == y.partner))) ≡ is_eq (before x y)
ties = ties_where_equal suspects
    (λ x y. Decides-like _
    (λ e. ap₂ (λ (k : ℕ) (s : Square). let z : Suspect = record { key = k; square = s; partner = x.partner } in z) e.0 e.1.0
    ∙ ap (λ (p : ℕ). let z : Suspect = record { key = y.key; square = y.square; partner = p } in z) e.1.1)
    (λ e. (ap (λ (z : Suspect). z.key) e, (ap (λ (z : Suspect). z.square) e, ap (λ (z : Suspect). z.partner) e)))
    (Decides-and _ _ (Decides-eqb x.key y.key) (Decides-and _ _ (squares_equal x.square y.square) (Decides-eqb x.partner y.partner))))
    same

-- Cell order is the order of codes.
use Rattle.std.proofs.Common.{◌≡◌, ◌==◌, ◌&&◌, ℕ, ◌<◌, Ordering, Less, Equal, Greater, is_eq, sym, ap, ◌∙◌, subst, ap₂}
use Rattle.std.specs.Cmp.{IsTotalOrder, nat_cmp_total, ranks}
use Rattle.std.specs.Ordering.{MatchOrdering}
use Rattle.std.proofs.lemmas.Bool.Decides.{Decides-and, Decides-eqb, Decides-like}
use Rattle.board.specs.OrderFacts.{ties_where_equal}
use Rattle.board.specs.declared.cell.Cell.{Cell}
use Rattle.board.specs.CellOrder.{by_code, CellOrderIsCodeOrder}
use Rattle.board.specs.Morton.{code, x_of, y_of}
use Rattle.board.specs.CodeFacts.Codes.{codes_are_exact}

-- the order of codes, of what has a code
pub total : IsTotalOrder by_code
total = record {
  antisymm = λ x y. nat_cmp_total.antisymm (code x.x x.y) (code y.x y.y);
  trans = λ x y z. nat_cmp_total.trans (code x.x x.y) (code y.x y.y) (code z.x z.y);
  congr = λ x y z. nat_cmp_total.congr (code x.x x.y) (code y.x y.y) (code z.x z.y);
}

-- cells with one code are one cell
same_cell : (x y : Cell) → code x.x x.y ≡ code y.x y.y → x ≡ y
same_cell x y e =
    let p : x.x ≡ y.x = sym (codes_are_exact.column x.x x.y) ∙ ap x_of e ∙ codes_are_exact.column y.x y.y in
    let q : x.y ≡ y.y = sym (codes_are_exact.row x.x x.y) ∙ ap y_of e ∙ codes_are_exact.row y.x y.y in
    ap₂ (λ (a b : ℕ). let c : Cell = record { x = a; y = b } in c) p q

by_cell : (x y : Cell) (r : Ordering) → MatchOrdering r (code x.x x.y < code y.x y.y) (code x.x x.y ≡ code y.x y.y) (code y.x y.y < code x.x x.y)
    → MatchOrdering r (code x.x x.y < code y.x y.y) (x ≡ y) (code y.x y.y < code x.x x.y)
by_cell x y Less h = h
by_cell x y Equal h = same_cell x y h
by_cell x y Greater h = h

pub cell_order_is_code_order : CellOrderIsCodeOrder
cell_order_is_code_order = record {
  total = total;
  ranks = λ x y. by_cell x y (by_code x y) (ranks (code x.x x.y) (code y.x y.y));
}

-- the order ties just where `==` answers true
pub ties : (x y : Cell) → ((x.x == y.x) && (x.y == y.y)) ≡ is_eq (by_code x y)
ties = ties_where_equal total
    (λ x y. Decides-like _
    (λ e. ap₂ (λ (a b : ℕ). let c : Cell = record { x = a; y = b } in c) e.0 e.1)
    (λ e. (ap (λ (c : Cell). c.x) e, ap (λ (c : Cell). c.y) e))
    (Decides-and _ _ (Decides-eqb x.x y.x) (Decides-eqb x.y y.y)))
    (λ x y e. subst (λ r. MatchOrdering r (code x.x x.y < code y.x y.y) (x ≡ y) (code y.x y.y < code x.x x.y)) e (cell_order_is_code_order.ranks x y))

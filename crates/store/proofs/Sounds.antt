-- The consequences of the facts of a store.
use Rattle.std.proofs.Common.{◌≡◌, ℕ, zero, suc, ◌+◌, ◌-◌, ◌*◌, ◌/◌, ◌%◌, ◌^◌, ◌<◌, ◌≤◌, sym, refl, ap, ◌∙◌, subst, ⊎_elim, div-one, arith, pow-add}
use Rattle.std.proofs.lemmas.Nat.{div_below}
use Rattle.std.proofs.lemmas.Bool.{cases_Bool}
use Rattle.std.proofs.lemmas.Bool.Decides.{not_from_Decides}
use Rattle.board.specs.Limits.{top, parts}
use Rattle.board.specs.Squares.{OnBoard, Inside}
use Rattle.board.specs.SquareOrderFacts.{four_positive}
use Rattle.store.specs.declared.store.Answer.{Answer}
use Rattle.store.specs.declared.store.Answer.TheVariants.{Empty}
use Rattle.store.specs.Stores.{Counts, Holds, StoreFacts}
use Rattle.store.specs.Exact.{on_board}
use Rattle.store.specs.ExactFacts.{empty_no_count, decides_on_board, outward, inward, cell_inside}
use Rattle.store.specs.Sound.{EmptyHoldsNone, CountedHoldsACell, HolderNotEmpty, HeldOnBoard, OneSquareOfEachLevel}

module _ (t : ℕ → ℕ → Answer) (f : StoreFacts t) where
  -- what counts is on the board
  counted_on_board : (l n : ℕ) → Counts (t l n) → OnBoard l n
  counted_on_board l n y =
      ⊎_elim (decides_on_board l n).0
      (λ e. absurd (empty_no_count (t l n) (f.off_board l n (not_from_Decides (on_board l n) (decides_on_board l n) e)) y)) (cases_Bool (on_board l n))

  pub held_on_board : HeldOnBoard t
  held_on_board c y = (counted_on_board 0 c y).1

  -- the quarter of an empty square that the cell lies in is empty too
  none_in : (l n c : ℕ) → l ≤ top → t l n ≡ Empty → Inside l n c → Holds t c → ⊥
  none_in zero n c h e i y = empty_no_count (t 0 n) e (subst (λ x. Counts (t 0 x)) (cell_inside n c i) y)
  none_in (suc l) n c h e i y =
      let s : suc l ≡ l + 1 = omega arith in
      let j : Inside (l + 1) n c = subst (λ x. Inside x n c) s i in
      let z : t (l + 1) n ≡ Empty = subst (λ x. t x n ≡ Empty) s e in
      let k : c / parts ^ l % parts < parts = omega arith in
      none_in l (parts * n + c / parts ^ l % parts) c (omega arith) (f.empty_quarters l n (c / parts ^ l % parts) (omega arith) k z) (inward l n c j) y

  pub empty_holds_none : EmptyHoldsNone t
  empty_holds_none = none_in

  pub holder_not_empty : HolderNotEmpty t
  holder_not_empty l n h s e = none_in l n s.0 h e s.1 s.2

  some_in : (l n : ℕ) → Counts (t l n) → (c : ℕ) × Inside l n c × Holds t c
  some_in zero n y = (n, div-one n, y)
  some_in (suc l) n y =
      let s : suc l ≡ l + 1 = omega arith in
      let b = counted_on_board (suc l) n y in
      let q = f.counted_quarter l n (omega arith) (subst (λ x. Counts (t x n)) s y) in
      let r = some_in l (parts * n + q.0) q.2 in
      (r.0, subst (λ x. Inside x n r.0) (sym s) (outward l n q.0 r.0 q.1 r.1), r.2)

  pub counted_holds_a_cell : CountedHoldsACell t
  counted_holds_a_cell = some_in

pub one_square_of_each_level : OneSquareOfEachLevel
one_square_of_each_level l c h k =
    let e : parts ^ top ≡ parts ^ (top - l) * parts ^ l = ap (λ x. parts ^ x) (let s : top ≡ top - l + l = omega arith in s) ∙ pow-add parts (top - l) l in
    (c / parts ^ l, (h, div_below c (parts ^ l) (parts ^ (top - l)) (four_positive l) (omega arith)), refl, λ m i. sym i)

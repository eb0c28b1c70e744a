use Rattle.std.proofs.Common.{◌≡◌, ◌*◌, ◌^◌, min, refl, ap, ◌∙◌, arith}
use Rattle.board.specs.Squares.{OnBoard}
use Rattle.board.specs.SquareOrder.{first_code}
use Rattle.board.specs.declared.square.Square.{Square}
use Rattle.board.proofs.Boards.{code_fits, first_inside, first-least}
use Rattle.board.proofs.square.Square.first_code.Goals as goal

-- of a square on the board no level is above the board's
on_board_starts : (s : Square) → OnBoard s.level s.number → first_code s ≡ s.number * 4 ^ s.level
on_board_starts s b = let e : min s.level 16 ≡ s.level = omega (arith, b.0) in ap (λ l. s.number * 4 ^ l) e

pub overflow_cast-result : goal.overflow_cast-result
overflow_cast-result c =
    let s = c.args.self in
    let b = c.if-not-on_board.ensures.decides.0 refl in
    omega (arith, code_fits s.level s.number b, c.start.ensures.value, on_board_starts s b)

pub returns-clause-first_of_its_cells : goal.returns-clause-first_of_its_cells
returns-clause-first_of_its_cells c =
    let s = c.args.self in
    let b : OnBoard s.level s.number = c.if-not-on_board.ensures.decides.0 refl in
    let e = c.start.ensures.value ∙ on_board_starts s b in
    rw e (first_inside s.level s.number, λ p h. first-least s.level s.number p h)

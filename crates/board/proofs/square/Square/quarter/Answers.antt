use Rattle.std.proofs.Common.{refl, arith}
use Rattle.board.proofs.Boards.{quarter_on_board, number_fits}
use Rattle.board.proofs.square.Square.quarter.Goals as goal

pub overflow_mul-result : goal.overflow_mul-result
overflow_mul-result c =
    let s = c.args.self in
    let b = c.if-not-on_board.ensures.decides.0 refl in
    omega (arith, number_fits _ _ (quarter_on_board s.level s.number 0 b (omega arith) (omega arith)))

pub overflow_add-result : goal.overflow_add-result
overflow_add-result c =
    let s = c.args.self in
    let b = c.if-not-on_board.ensures.decides.0 refl in
    omega (arith, number_fits _ _ (quarter_on_board s.level s.number c.args.k b (omega arith) (omega arith)))

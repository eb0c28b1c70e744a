use Rattle.std.proofs.Common.{true, false, refl}
use Rattle.std.proofs.lemmas.Bool.{false≢true}
use Rattle.store.proofs.Located.{off_board, on_board_so}
use Rattle.store.proofs.rectangle.Rectangle.place_of.Goals as goal

pub returns-then-not-on_board-clause-value : goal.returns-then-not-on_board-clause-value
returns-then-not-on_board-clause-value c =
    let e = off_board c.args.self.now c.args.square.level c.args.square.number (λ b. false≢true (c.if-not-on_board.ensures.decides.1 b)) in
    e.0

pub returns-then-not-meets : goal.returns-then-not-meets
returns-then-not-meets c =
    let e = on_board_so c.args.self.now c.args.square.level c.args.square.number c.block-block.result (c.if-not-on_board.ensures.decides.0 refl) c.block-block.ensures false _ c.if-not-meets.ensures refl in
    record { value = e.0; by_cells = e.1 }

pub returns-then-lies_in : goal.returns-then-lies_in
returns-then-lies_in c =
    let e = on_board_so c.args.self.now c.args.square.level c.args.square.number c.block-block.result (c.if-not-on_board.ensures.decides.0 refl) c.block-block.ensures true true c.if-not-meets.ensures c.if-lies_in.ensures in
    record { value = e.0; by_cells = e.1 }

pub returns-else-lies_in : goal.returns-else-lies_in
returns-else-lies_in c =
    let e = on_board_so c.args.self.now c.args.square.level c.args.square.number c.block-block.result (c.if-not-on_board.ensures.decides.0 refl) c.block-block.ensures true false c.if-not-meets.ensures c.if-lies_in.ensures in
    record { value = e.0; by_cells = e.1 }

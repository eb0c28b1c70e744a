use Rattle.std.proofs.Common.{arith}
use Rattle.board.specs.CodeFacts.Codes.{x_lt, y_lt}
use Rattle.store.specs.ExactFacts.{set_of}
use Rattle.store.specs.RectangleFacts.{exactly_rectangle, rectangle_facts}
use Rattle.store.proofs.rectangle.Rectangle.board.Goals as goal

pub returns-clause-holds_every_cell : goal.returns-clause-holds_every_cell
returns-clause-holds_every_cell c n h =
    let x = x_lt n h in
    let y = y_lt n h in
    (set_of _ _ (exactly_rectangle _)).all n h (omega arith, omega arith, omega arith, omega arith)

pub returns-clause-facts_can_be_met : goal.returns-clause-facts_can_be_met
returns-clause-facts_can_be_met c = rectangle_facts _

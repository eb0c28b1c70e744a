use Rattle.board.specs.CodeFacts.Codes.{codes_are_exact}
use Rattle.board.specs.CodeFacts.Ordered.{cell_order_is_code_order}
use Rattle.board.proofs.cell.codes_are_exact.Goals as goal

pub returns : goal.returns
returns c = record { codes = codes_are_exact; order = cell_order_is_code_order }

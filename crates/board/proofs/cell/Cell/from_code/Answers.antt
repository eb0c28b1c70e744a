use Rattle.std.proofs.Common.{◌≡◌}
use Rattle.board.specs.Morton.{x_of, y_of}
use Rattle.board.specs.CodeFacts.Codes.{interleaved_of}
use Rattle.board.proofs.cell.Cell.from_code.Goals as goal

pub returns-clause-bits_by_turns : goal.returns-clause-bits_by_turns
returns-clause-bits_by_turns c =
    let x : c.gather.result ≡ x_of c.args.code = c.gather.ensures in
    let y : c.gather-2.result ≡ y_of c.args.code = c.gather-2.ensures in
    rw (x, y) (interleaved_of c.args.code)

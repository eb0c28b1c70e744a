use Rattle.std.proofs.Common.{◌∙◌, arith}
use Rattle.board.proofs.Cuts.{cut}
use Rattle.board.proofs.span.Span.of.Goals as goal

pub returns : goal.returns
returns c =
    let e = cut c.args.level c.min-level.result c.args.place c.min-level.ensures (omega arith) in
    record { begins = c.min.ensures ∙ e.0; ends = c.min-2.ensures ∙ e.1 }

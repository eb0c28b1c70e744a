use Rattle.std.proofs.Common.{◌≡◌, sym, ◌∙◌, ap₂}
use Rattle.board.specs.Distances.{distance}
use Rattle.board.specs.Spans.{gap}
use Rattle.board.specs.Morton.{code, x_of, y_of}
use Rattle.board.specs.CodeFacts.Codes.{codes_are_exact}
use Rattle.board.proofs.amounts.distance.Goals as goal

pub returns-clause-value : goal.returns-clause-value
unfolding distance gap
returns-clause-value g c =
    let m = c.args.m.now in
    let a = c.args.a in
    let b = c.args.b in
    let x : c.abs_diff-dx.result ≡ gap (x_of (code a.x a.y)) (x_of (code b.x b.y)) =
    c.abs_diff-dx.ensures ∙ sym (ap₂ gap (codes_are_exact.column a.x a.y) (codes_are_exact.column b.x b.y)) in
    let y : c.abs_diff-dy.result ≡ gap (y_of (code a.x a.y)) (y_of (code b.x b.y)) =
    c.abs_diff-dy.ensures ∙ sym (ap₂ gap (codes_are_exact.row a.x a.y) (codes_are_exact.row b.x b.y)) in
    c.amount.ensures.value ∙ ap₂ (g.M.Measure.amount m) x y

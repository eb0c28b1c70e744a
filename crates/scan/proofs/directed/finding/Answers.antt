use Rattle.std.proofs.Common.{◌<◌, arith}
use Rattle.board.specs.Distances.{distance}
use Rattle.board.specs.Findings.{Finds, code_of}
use Rattle.board.specs.Limits.{codes}
use Rattle.board.specs.Lists.{Has}
use Rattle.board.proofs.Bounded.{bounds}
use Rattle.scan.proofs.directed.finding.Goals as goal

pub returns-clause-limited : goal.returns-clause-limited
returns-clause-limited g c =
    let f = g.M.Measure.amount c.args.m.now in
    let r = c.unwrap.result in
    let s : Finds (distance f) (Has c.args.a.now) (Has c.args.b.now) r = rw c.unwrap.ensures at c.worst.ensures in
    let film = s.held in
    let drawing = s.partner.held in
    let film_small : code_of r.film < codes = omega (arith, film.2, c.type_inv.a film.0) in
    let drawing_small : code_of r.drawing < codes = omega (arith, drawing.2, c.type_inv.b drawing.0) in
    omega (arith, s.amount, (bounds f (g.M.Measure.laws c.args.m.now)).cell_limited (code_of r.film) (code_of r.drawing) film_small drawing_small)

use Rattle.board.specs.Distances.{distance}
use Rattle.board.specs.Lists.{Has}
use Rattle.board.proofs.Straying.{strays_names_one}
use Rattle.scan.proofs.directed.scan.Goals as goal

pub returns-in_err-check-clause-one_answer : goal.returns-in_err-check-clause-one_answer
returns-in_err-check-clause-one_answer g c = strays_names_one (distance (g.M.Measure.amount c.args.m.now)) (Has c.args.a.now) (Has c.args.b.now)

pub returns-clause-one_answer : goal.returns-clause-one_answer
returns-clause-one_answer g c = strays_names_one (distance (g.M.Measure.amount c.args.m.now)) (Has c.args.a.now) (Has c.args.b.now)

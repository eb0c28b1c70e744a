use Rattle.comparison.proofs.Keying.{cell_of}
use Rattle.comparison.proofs.record.Figures.finding.Goals as goal

pub returns-clause-film : goal.returns-clause-film
returns-clause-film c = cell_of c.from_code.result c.args.self.film c.from_code.ensures.column c.from_code.ensures.row

pub returns-clause-drawing : goal.returns-clause-drawing
returns-clause-drawing c = cell_of c.from_code-2.result c.args.self.drawing c.from_code-2.ensures.column c.from_code-2.ensures.row

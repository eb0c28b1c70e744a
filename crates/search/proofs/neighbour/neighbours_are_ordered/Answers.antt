use Rattle.search.proofs.Ranked.{neighbours_are_ordered}
use Rattle.search.proofs.neighbour.neighbours_are_ordered.Goals as goal

pub returns-clause-order : goal.returns-clause-order
returns-clause-order c = neighbours_are_ordered

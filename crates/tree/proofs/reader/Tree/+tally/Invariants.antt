use Rattle.tree.specs.Held.{cells_of}
use Rattle.tree.proofs.Tallying.{Summed}
use Rattle.tree.proofs.reader.Tree.+tally.Given as goal

abbrev pub decreases-tally : goal.decreases-tally
decreases-tally l = l.square.level

abbrev pub invariant-loop-k : goal.invariant-loop-k
invariant-loop-k l = Summed (cells_of l.self) l.square.level l.square.number l.k l.sum

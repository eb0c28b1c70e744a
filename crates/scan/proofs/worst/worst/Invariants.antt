use Rattle.board.specs.Distances.{distance}
use Rattle.board.specs.Findings.{code_of}
use Rattle.scan.specs.Rounds.{to_come}
use Rattle.scan.proofs.Loops.{Meeting, Low}
use Rattle.scan.proofs.worst.worst.Given as goal

abbrev pub invariant-film : goal.invariant-film
invariant-film g l = Low (distance (g.M.Measure.amount l.m)) l.a l.b l.code-index l.low

abbrev pub invariant-loop-other : goal.invariant-loop-other
invariant-loop-other g l = record {
  can : (goal.iterator-loop-other g).can_next l.other-iterator;
  finite : (goal.iterator-loop-other g).is_finite l.other-iterator;
  meeting : Meeting (distance (g.M.Measure.amount l.m)) l.b (to_come l.other-iterator) (code_of l.film) l.low l.best;
}

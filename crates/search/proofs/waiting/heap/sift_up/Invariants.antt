use Rattle.std.proofs.HeapSift as sifts
use Rattle.std.specs.List.Sorted.{IsPermutation}
use Rattle.std.specs.Cmp.{back_total}
use Rattle.std.specs.Ordering.{flip_args}
use Rattle.std.proofs.Common.{◌<◌, ◌≤◌, length}
use Rattle.search.proofs.waiting.heap.sift_up.Given as goal

abbrev pub invariant-loop-at : goal.invariant-loop-at
invariant-loop-at g l = (l.«at» < length l.s) × (l.«at» ≤ l.initial.«at») × IsPermutation l.initial.s l.s × sifts.Rising (flip_args g.T.Ord.cmp) (back_total g.met.T.Ord.total) l.initial.s l.initial.«at» l.s l.«at»

abbrev pub decreases-loop-at : goal.decreases-loop-at
decreases-loop-at g l = l.«at»

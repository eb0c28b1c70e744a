use Rattle.std.proofs.HeapSift as sifts
use Rattle.std.specs.List.Sorted.{IsPermutation}
use Rattle.std.specs.Cmp.{back_total}
use Rattle.std.specs.Ordering.{flip_args}
use Rattle.std.proofs.Common.{◌-◌, length}
use Rattle.search.proofs.waiting.heap.sift_down.Given as goal

abbrev pub invariant-loop-at : goal.invariant-loop-at
invariant-loop-at g l = IsPermutation l.initial.s l.s × sifts.Sinking (flip_args g.T.Ord.cmp) (back_total g.met.T.Ord.total) l.initial.s 0 (length l.initial.s) l.s l.«at»

abbrev pub decreases-loop-at : goal.decreases-loop-at
decreases-loop-at g l = length l.initial.s - l.«at»

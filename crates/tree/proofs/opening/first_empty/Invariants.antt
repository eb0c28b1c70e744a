use Rattle.std.proofs.Common.{ℕ, ◌<◌, ◌≤◌}
use Rattle.tree.specs.Bitmaps.{Filled}
use Rattle.tree.specs.Held.{bits_of}
use Rattle.tree.proofs.opening.first_empty.Given as goal

abbrev pub invariant-loop-k : goal.invariant-loop-k
invariant-loop-k l = (j : ℕ) → l.from ≤ j → j < l.k → Filled (bits_of l.b) j

use Rattle.std.proofs.Common.{◌≡◌, ◌-◌, ◌≤◌, Bool, List, ◌++◌}
use Rattle.tree.specs.Bitmaps.{bits, demanded}
use Rattle.tree.specs.Reader.{ones_before}
use Rattle.tree.proofs.opening.levels_fit.Given as goal

abbrev pub invariant-loop-level : goal.invariant-loop-level
invariant-loop-level l =
    ((low : List Bool) → l.end ≡ demanded (l._level - 1) 1 (bits l.t.bytes.now l.t.len ++ low))
    × (l.ones ≡ ones_before l.t.bytes.now l.end)
    × (l.end ≤ l.t.len)

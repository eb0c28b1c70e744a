use Rattle.std.proofs.Common.{◌≡◌, ◌+◌, ◌-◌, ◌<◌, ◌++◌}
use Rattle.tree.specs.Bitmaps.{walk}
use Rattle.tree.specs.Held.{t_of, l_of}
use Rattle.tree.proofs.Standing.{Stands}
use Rattle.tree.proofs.reader.Tree.goes_down.Given as goal

abbrev pub invariant-loop-left : goal.invariant-loop-left
invariant-loop-left l =
    (walk (t_of l.self ++ l_of l.self) l.left l.block l.number ≡ walk (t_of l.self ++ l_of l.self) l.levels 0 l.number)
    × (0 < l.left → Stands (t_of l.self) (l_of l.self) (l.left + (l.self.height - l.levels)) l.block)

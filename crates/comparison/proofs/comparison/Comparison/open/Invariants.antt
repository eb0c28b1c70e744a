use Rattle.std.proofs.Common.{◌+◌, ◌-◌, ◌*◌, ◌^◌, ◌≤◌}
use Rattle.board.specs.Limits.{parts}
use Rattle.comparison.specs.Advances.{Opened}
use Rattle.comparison.specs.Comparisons.{weighed}
use Rattle.comparison.proofs.comparison.Comparison.open.Given as goal

abbrev pub invariant-loop-k : goal.invariant-loop-k
invariant-loop-k g l =
    (weighed l.self ≤ weighed l.initial.self + l.k * (parts + 1) ^ (l.s.level - 1))
    × (Opened g.A.Store.answers g.B.Store.answers g.M.Measure.amount l.initial.self (l.s.level - 1) l.s.number l.k l.self)

use Rattle.std.proofs.Common.{◌≡◌, ◌-◌}
use Rattle.board.specs.Limits.{parts}
use Rattle.search.specs.Piles.{piled}
use Rattle.search.specs.Stacks.{held, from_last}
use Rattle.search.proofs.stack.open.Given as goal

abbrev pub invariant-loop-k : goal.invariant-loop-k
invariant-loop-k l = held l.stack ≡ piled (from_last l.s) (parts - l.k) (held l.initial.stack)

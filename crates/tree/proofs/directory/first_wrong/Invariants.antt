use Rattle.std.proofs.Common.{◌≡◌, ℕ, ◌*◌, ◌≤◌, get_or}
use Rattle.tree.specs.Reader.{ones_before, spacing}
use Rattle.tree.proofs.directory.first_wrong.Given as goal

abbrev pub invariant-loop-part : goal.invariant-loop-part
invariant-loop-part l =
    (l.total ≡ ones_before l.t.bytes.now (spacing * l.part))
    × ((j : ℕ) → j ≤ l.part → get_or l.counts j 0 ≡ ones_before l.t.bytes.now (spacing * j))

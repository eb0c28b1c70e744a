-- What the loops of the scan answer.
use Rattle.std.specs.Prelude.{◌≡◌, ℕ, ◌⊎◌, List, length, Some, None, Option}
use Rattle.board.specs.Lists.{Has}
use Rattle.board.specs.Findings.{Finds}
use Rattle.board.specs.declared.finding.Finding.{Finding}

-- no pair where a list is empty, else the pair that shows how far a strays from b
abbrev pub Worst : (ℕ → ℕ → ℕ) → List ℕ → List ℕ → Option Finding → Type 0
Worst dist a b None = (length a ≡ 0) ⊎ (length b ≡ 0)
Worst dist a b (Some p) = Finds dist (Has a) (Has b) p

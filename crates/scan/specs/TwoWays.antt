-- The two-way figure.
use Rattle.std.specs.Prelude.{◌≡◌, ℕ, ◌+◌, List}
use Rattle.board.specs.Findings.{Finds}
use Rattle.board.specs.Lists.{Has}
use Rattle.scan.specs.declared.two_way.TwoWay.{TwoWay}

-- both directed distances of the lists, each with its pair, and their sum
pub record FindsBoth (dist : ℕ → ℕ → ℕ) (a b : List ℕ) (t : TwoWay) : Type 0 where
  pub there : Finds dist (Has a) (Has b) t.there
  pub back : Finds dist (Has b) (Has a) t.back
  pub sum : t.sum ≡ t.there.distance + t.back.distance

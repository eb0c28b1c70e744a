-- How many cells lie in a square.
use Rattle.std.specs.Prelude.{ℕ, ◌+◌, ◌/◌, ◌^◌, cond, List, [], ◌∷◌, ◌==◌}
use Rattle.board.specs.Limits.{parts}
use Rattle.store.specs.Exact.{on_board}

-- how many of the cells lie in the square n of level l
unfoldable pub count_in : List ℕ → ℕ → ℕ → ℕ
count_in [] l n = 0
count_in (c ∷ cs) l n = cond (c / parts ^ l == n) 1 0 + count_in cs l n

-- what is not on the board has no cell
abbrev pub tally_of : List ℕ → ℕ → ℕ → ℕ
tally_of cs l n = cond (on_board l n) (count_in cs l n) 0

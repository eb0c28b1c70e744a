-- A film of stripes at the pitch p.
use Rattle.std.specs.Prelude.{◌≡◌, ℕ, ◌-◌, ◌%◌, Bool, nat_le}
use Rattle.board.specs.Morton.{x_of}
use Rattle.board.specs.Spans.{first, last}
use Rattle.store.specs.declared.store.Answer.{Answer}
use Rattle.store.specs.Exact.{tested}

-- the column of the cell c is a multiple of the pitch
abbrev pub OnStripe : ℕ → ℕ → Type 0
OnStripe p c = x_of c % p ≡ 0

-- the last stripe that is not east of the square n of level l is not west of it
abbrev pub crossed : ℕ → ℕ → ℕ → Bool
crossed p l n = nat_le (first l (x_of n)) (last l (x_of n) - last l (x_of n) % p)

-- the table of answers
abbrev pub striped : ℕ → ℕ → ℕ → Answer
striped p = tested (crossed p)

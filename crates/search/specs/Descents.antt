-- What lies in a square, and what lies before it in cell order.
use Rattle.std.specs.Prelude.{ℕ, ◌+◌, ◌-◌, ◌*◌, ◌^◌, ◌<◌}
use Rattle.board.specs.Limits.{parts}
use Rattle.board.specs.Squares.{Inside}
use Rattle.board.specs.declared.square.Square.{Square}

-- the square q of level e lies in the square n of level m, or is that square
abbrev pub Under : ℕ → ℕ → ℕ → ℕ → Type 0
Under e m n q = Inside (m - e) n q

-- the square q of level e does not lie in s
abbrev pub Outside : ℕ → ℕ → Square → Type 0
Outside e q s = Under e s.level s.number q → ⊥

-- the code of the first cell of s, and of the first cell behind s
abbrev pub starts : Square → ℕ
starts s = s.number * parts ^ s.level

abbrev pub ends : Square → ℕ
ends s = (s.number + 1) * parts ^ s.level

-- the square q of level e begins before s in cell order
abbrev pub Before : ℕ → ℕ → Square → Type 0
Before e q s = q * parts ^ e < starts s

-- the quarter k of s, one level lower
abbrev pub quarter : Square → ℕ → Square
quarter s k = record { level = s.level - 1; number = parts * s.number + k }

-- The fixed generator: a state for each state, and the number that a state shows.
use Rattle.std.specs.Prelude.{ℕ, ◌+◌, ◌*◌, ◌/◌, ◌%◌, ◌^◌}

abbrev pub after : ℕ → ℕ
after s = (s * 6364136223846793005 + 1442695040888963407) % 2 ^ 64

abbrev pub shown : ℕ → ℕ
shown s = s / 2 ^ 32

-- Measures: an amount for each offset.
use Rattle.std.specs.Prelude.{ℕ, ◌+◌, ◌*◌, ◌≤◌, max}
use Rattle.std.proofs.Common.{mul-le-mul, arith}
use Rattle.board.specs.Limits.{edge, most}

-- what every measure owes: amounts do not fall when an offset grows, and stay small
pub record MeasureLaws (f : ℕ → ℕ → ℕ) : Type 0 where
  pub grows : (dx dy ex ey : ℕ) → dx ≤ ex → dy ≤ ey → ex ≤ edge → ey ≤ edge → f dx dy ≤ f ex ey
  pub limited : (dx dy : ℕ) → dx ≤ edge → dy ≤ edge → f dx dy ≤ most

abbrev pub squared : ℕ → ℕ → ℕ
squared dx dy = dx * dx + dy * dy

abbrev pub summed : ℕ → ℕ → ℕ
summed dx dy = dx + dy

abbrev pub greater : ℕ → ℕ → ℕ
greater dx dy = max dx dy

pub squared_laws : MeasureLaws squared
squared_laws = record {
  grows = λ dx dy ex ey h k _ _. omega (arith, mul-le-mul h h, mul-le-mul k k);
  limited = λ dx dy h k. omega (arith, mul-le-mul h h, mul-le-mul k k);
}

pub summed_laws : MeasureLaws summed
summed_laws = record { grows = λ dx dy ex ey h k _ _. omega arith; limited = λ dx dy h k. omega arith }

pub greater_laws : MeasureLaws greater
greater_laws = record { grows = λ dx dy ex ey h k _ _. omega arith; limited = λ dx dy h k. omega arith }

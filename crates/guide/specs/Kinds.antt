-- The measures by name: their names, amounts and laws.
use Rattle.std.specs.Prelude.{ℕ, List, codes}
use Rattle.board.specs.Measures.{MeasureLaws, squared, summed, greater, squared_laws, summed_laws, greater_laws}
use Rattle.guide.specs.declared.kind.Kind.{Kind}
use Rattle.guide.specs.declared.kind.Kind.TheVariants.{Square, Sum, Greater}

abbrev pub name_of : Kind → List ℕ
name_of Square = codes "square"
name_of Sum = codes "sum"
name_of Greater = codes "greater"

abbrev pub amount_of : Kind → ℕ → ℕ → ℕ
amount_of Square = squared
amount_of Sum = summed
amount_of Greater = greater

pub laws_of : (k : Kind) → MeasureLaws (amount_of k)
laws_of Square = squared_laws
laws_of Sum = summed_laws
laws_of Greater = greater_laws

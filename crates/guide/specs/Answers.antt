-- The answer lines: words and numbers with single spaces between them, and a line feed.
use Rattle.std.specs.Prelude.{ℕ, List, [], ◌∷◌, ◌++◌, Ok, Err, codes, decimal, Result}
use Rattle.comparison.specs.Faults.{fault_numbered}
use Rattle.comparison.specs.declared.call.Outcome.{Outcome}
use Rattle.comparison.specs.declared.call.Outcome.TheVariants.{Begun, Stepped, Probed, Looked, Answered, Refused}
use Rattle.comparison.specs.declared.call.Sight.{Sight}
use Rattle.comparison.specs.declared.fault.Fault.{Fault}
use Rattle.job.specs.Lines.{joined}

-- a refusal: its number and its place
abbrev pub refusal_of : Fault → List ℕ
refusal_of f = joined (codes "refused" ∷ decimal (fault_numbered f).0 ∷ decimal (fault_numbered f).1 ∷ [])

-- each word with a space behind it
abbrev pub spaced : List (List ℕ) → List ℕ
spaced [] = []
spaced (w ∷ ws) = w ++ 32 ∷ spaced ws

-- what a look shows: low and high; the film's cell and the drawing's; queued, taken and waiting
abbrev pub figures_of : Sight → List ℕ
figures_of s = spaced (codes "look" ∷ decimal s.low ∷ decimal s.high ∷ [])

abbrev pub pair_of : Sight → List ℕ
pair_of s = spaced (decimal s.film.x ∷ decimal s.film.y ∷ decimal s.drawing.x ∷ decimal s.drawing.y ∷ [])

abbrev pub counts_of : Sight → List ℕ
counts_of s = joined (decimal s.queued ∷ decimal s.taken ∷ decimal s.waiting ∷ [])

-- the line of each outcome
abbrev pub answer_of : Outcome → List ℕ
answer_of Begun = joined (codes "begun" ∷ [])
answer_of Stepped = joined (codes "stepped" ∷ [])
answer_of Probed = joined (codes "probed" ∷ [])
answer_of (Looked s) = (figures_of s ++ pair_of s) ++ counts_of s
answer_of (Answered f) =
    joined (codes "result" ∷ decimal f.distance ∷ decimal f.film.x ∷ decimal f.film.y ∷ decimal f.drawing.x ∷ decimal f.drawing.y ∷ [])
answer_of (Refused f) = refusal_of f

-- the line of steps to the end: how many there were, or the refusal
abbrev pub ran_of : Result ℕ Fault → List ℕ
ran_of (Ok n) = joined (codes "ran" ∷ decimal n ∷ [])
ran_of (Err f) = refusal_of f

-- The printed line.
use Rattle.std.specs.Prelude.{◌≡◌, ℕ, List, [], ◌∷◌, ◌++◌, Some, None, Ok, Err, codes, decimal, Option, Result}
use Rattle.board.specs.Texts.{numbered_text}
use Rattle.board.specs.declared.finding.Finding.{Finding}
use Rattle.board.specs.declared.side.Side.{Side}
use Rattle.board.specs.declared.side.Side.TheVariants.{Film, Drawing}
use Rattle.job.specs.Faults.{Part, part_of, job_numbered}
use Rattle.job.specs.Faults.Part.{records_part, list_part, comparison_part}
use Rattle.job.specs.Films.{Outcome}
use Rattle.job.specs.declared.fault.JobFault.{JobFault}

-- fields with single spaces between them, and a line feed
abbrev pub joined : List (List ℕ) → List ℕ
joined [] = 10 ∷ []
joined (w ∷ []) = w ++ 10 ∷ []
joined (w ∷ v ∷ ws) = w ++ 32 ∷ joined (v ∷ ws)

abbrev pub side_letter : Option Side → List ℕ
side_letter (Some Film) = codes "A"
side_letter (Some Drawing) = codes "B"
side_letter None = codes "-"

abbrev pub part_word : Part → List ℕ
part_word records_part = codes "records"
part_word list_part = codes "list"
part_word comparison_part = codes "comparison"

-- what a fault prints: its side, its part, its number and its place
abbrev pub fault_text : JobFault → List ℕ
fault_text f =
    side_letter f.side ++ 32 ∷ (part_word (part_of f.fault) ++ 32 ∷ numbered_text (job_numbered f).0 (job_numbered f).1)

-- the line of a finding, and of a fault
abbrev pub line_of : Result Finding JobFault → List ℕ
line_of (Ok f) =
    joined (decimal f.distance ∷ decimal f.film.x ∷ decimal f.film.y ∷ decimal f.drawing.x ∷ decimal f.drawing.y ∷ [])
line_of (Err f) =
    joined (codes "refused" ∷ side_letter f.side ∷ part_word (part_of f.fault) ∷ decimal (job_numbered f).0 ∷ decimal (job_numbered f).1 ∷ [])

-- the bytes are the line of what a job answers for the films a and b
abbrev pub Printed : (ℕ → ℕ → ℕ) → List ℕ → List ℕ → List ℕ → Type 0
Printed dist a b bytes = (o : Result Finding JobFault) × Outcome dist a b o × (bytes ≡ line_of o)

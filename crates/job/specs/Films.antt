-- What a job answers for the bytes of two films.
use Rattle.std.specs.Prelude.{◌≡◌, ℕ, ◌<◌, ◌⊎◌, List, length, Some, None, Ok, Err, Option, Result}
use Rattle.board.specs.Findings.{Finds}
use Rattle.board.specs.Lists.{Rises, ListRefused, Has}
use Rattle.board.specs.declared.finding.Finding.{Finding}
use Rattle.board.specs.declared.side.Side.{Side}
use Rattle.board.specs.declared.side.Side.TheVariants.{Film, Drawing}
use Rattle.job.specs.Records.{records, Sized, RecordsRefused}
use Rattle.job.specs.Faults.{Part, part_of, part_numbered}
use Rattle.job.specs.Faults.Part.{records_part, list_part, comparison_part}
use Rattle.job.specs.declared.failure.Failure.{Failure}
use Rattle.job.specs.declared.failure.Failure.TheVariants.{Refused, NoMemory}
use Rattle.job.specs.declared.fault.JobFault.{JobFault}

-- a film that can be read: whole records, not too many, in cell order
pub record FilmRead (bs : List ℕ) : Type 0 where
  pub sized : Sized bs
  pub rises : Rises (records bs)

-- a film that is refused by a part, with a number and a place
abbrev pub FilmRefused : List ℕ → Part → ℕ × ℕ → Type 0
FilmRefused bs records_part f = RecordsRefused bs f
FilmRefused bs list_part f = Sized bs × ListRefused (records bs) f
FilmRefused bs comparison_part f = ⊥

-- what the films are where the job is refused, by its side, part, number and place
abbrev pub JobRefused : List ℕ → List ℕ → Option Side → Part → ℕ × ℕ → Type 0
JobRefused a b None p f = ⊥
JobRefused a b (Some Film) p f =
    FilmRefused a p f ⊎ ((p ≡ comparison_part) × FilmRead a × FilmRead b × (length (records a) ≡ 0) × (f ≡ (11, 0)))
JobRefused a b (Some Drawing) p f =
    (FilmRead a × FilmRefused b p f)
    ⊎ ((p ≡ comparison_part) × FilmRead a × FilmRead b × (0 < length (records a)) × (length (records b) ≡ 0) × (f ≡ (12, 0)))

-- the finding is how far the cells of the film stray from those of the drawing; or the job is refused
abbrev pub Outcome : (ℕ → ℕ → ℕ) → List ℕ → List ℕ → Result Finding JobFault → Type 0
Outcome dist a b (Ok f) = FilmRead a × FilmRead b × Finds dist (Has (records a)) (Has (records b)) f
Outcome dist a b (Err f) = JobRefused a b f.side (part_of f.fault) (part_numbered f.fault)

-- the same where memory may be wanting
abbrev pub Compared : (ℕ → ℕ → ℕ) → List ℕ → List ℕ → Result Finding (Failure JobFault) → Type 0
Compared dist a b (Ok f) = Outcome dist a b (Ok f)
Compared dist a b (Err (Refused f)) = Outcome dist a b (Err f)
Compared dist a b (Err NoMemory) = Unit {0}

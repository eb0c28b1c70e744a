-- Records: the cells of a film as bytes.
use Rattle.std.specs.Prelude.{◌≡◌, ℕ, ◌+◌, ◌*◌, ◌%◌, ◌<◌, ◌≤◌, ◌⊎◌, List, [], ◌∷◌, length, get_or, ◌≢◌}
use Rattle.board.specs.Morton.{code}
use Rattle.job.specs.declared.records.RecordsFault.{RecordsFault}
use Rattle.job.specs.declared.records.RecordsFault.TheVariants.{TooManyBytes, NotWhole}

-- a 16-bit number, low byte first
abbrev pub low_first : ℕ → ℕ → ℕ
low_first low high = low + high * 256

-- the codes of the cells: each has four bytes, x and then y
abbrev pub records : List ℕ → List ℕ
records [] = []
records (a ∷ []) = []
records (a ∷ b ∷ []) = []
records (a ∷ b ∷ c ∷ []) = []
records (a ∷ b ∷ c ∷ d ∷ bs) = code (low_first a b) (low_first c d) ∷ records bs

-- the code of the cell that four bytes stand for
abbrev pub code_of_record : List ℕ → ℕ
code_of_record r = code (low_first (get_or r 0 0) (get_or r 1 0)) (low_first (get_or r 2 0) (get_or r 3 0))

-- bytes that are accepted: at most 4,096, and whole records
pub record Sized (bs : List ℕ) : Type 0 where
  pub few : length bs ≤ 4096
  pub whole : length bs % 4 ≡ 0

-- the number and the place of each fault
abbrev pub records_numbered : RecordsFault → ℕ × ℕ
records_numbered TooManyBytes = (10, 0)
records_numbered NotWhole = (10, 0)

-- bytes that are refused, with this number and place
abbrev pub RecordsRefused : List ℕ → ℕ × ℕ → Type 0
RecordsRefused bs f = (f ≡ (10, 0)) × ((4096 < length bs) ⊎ (length bs % 4 ≢ 0))

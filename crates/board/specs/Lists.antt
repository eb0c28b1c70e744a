-- Lists of codes, and why one is refused.
use Rattle.std.specs.Prelude.{◌≡◌, ℕ, ◌+◌, ◌-◌, ◌<◌, ◌≤◌, ◌⊎◌, List, length, slice_index}
use Rattle.board.specs.declared.list.ListFault.{ListFault}
use Rattle.board.specs.declared.list.ListFault.TheVariants.{TooLong, NotRising}

-- how many codes a list may have
abbrev pub longest : ℕ
longest = 1048576

-- the number and the place of each fault
abbrev pub list_numbered : ListFault → ℕ × ℕ
list_numbered TooLong = (7, 0)
list_numbered (NotRising i) = (7, i)

-- each of the first n codes is above the one before it
abbrev pub Rising : List ℕ → ℕ → Type 0
Rising cs n = (i : ℕ) → i + 1 < n → slice_index cs i < slice_index cs (i + 1)

-- a list that is accepted
pub record Rises (cs : List ℕ) : Type 0 where
  pub short : length cs ≤ longest
  pub rising : Rising cs (length cs)

-- a list that is refused, with this number and place: it is too long; or the code at the place is the first that is not above the one before it
abbrev pub ListRefused : List ℕ → ℕ × ℕ → Type 0
ListRefused cs f =
    (f.0 ≡ 7) × (((longest < length cs) × (f.1 ≡ 0))
    ⊎ ((length cs ≤ longest) × (1 ≤ f.1) × (f.1 < length cs) × (slice_index cs f.1 ≤ slice_index cs (f.1 - 1)) × Rising cs f.1))

-- the code c is one of the first n of the list
abbrev pub Among : List ℕ → ℕ → ℕ → Type 0
Among cs n c = (k : ℕ) × (k < n) × (slice_index cs k ≡ c)

-- the list has the code c
abbrev pub Has : List ℕ → ℕ → Type 0
Has cs = Among cs (length cs)

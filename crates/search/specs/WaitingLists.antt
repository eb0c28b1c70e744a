-- The words of the waiting list's contracts: what waits, as a bag, and which entry is first.
use Rattle.std.specs.Prelude.{◌≡◌, ℕ, ◌<◌, Bool, true, false, List, [], ◌∷◌, length, take, Some, None, Option}
use Rattle.std.specs.declared.cmp.Ordering.{Ordering}
use Rattle.std.specs.BinaryHeap.{IsHeap}
use Rattle.std.specs.Ordering.{is_lt, flip_args}
use Rattle.std.specs.List.Sorted.{IsPermutation}
use Rattle.std.specs.List.{ContainsAt as Has, AllByRecursion}
use Rattle.search.specs.declared.waiting.WaitingList.{WaitingList}

module _ {X : Type 0} where
  -- the entries that wait: a bag, since contracts compare it by IsPermutation
  abbrev pub waiting : WaitingList X → List X
  waiting w = take w.count w.places.now

  -- how many entries there are places for
  abbrev pub room : WaitingList X → ℕ
  room w = length w.places.now

module _ {X : Type 0} (R : X → X → Ordering) where
  -- no entry comes before its parent, that at (i - 1) / 2: a heap whose first entry is at place 0
  abbrev pub InHeap : List X → Type 0
  InHeap xs = IsHeap (flip_args R) xs

  -- no entry of xs comes before x
  abbrev pub FirstIn : X → List X → Type 0
  FirstIn x xs = AllByRecursion (λ y. is_lt (R y x) ≡ false) xs

  -- the list is a heap: what `new` and `clear` give, and `add` and `take` keep
  abbrev pub Ready : WaitingList X → Type 0
  Ready w = InHeap (waiting w)

  -- ys is a heap where xs is
  abbrev pub Stays : List X → List X → Type 0
  Stays xs ys = InHeap xs → InHeap ys

  -- the same, and x is the first of xs
  abbrev pub Drawn : List X → X → List X → Type 0
  Drawn xs x ys = InHeap xs → InHeap ys × FirstIn x xs

  -- what `add` does: the bag gains x where a place is free, and else stays
  abbrev pub Added : WaitingList X → X → Bool → WaitingList X → Type 0
  Added v x true w = (length (waiting v) < room v) × IsPermutation (x ∷ waiting v) (waiting w) × Stays (waiting v) (waiting w)
  Added v x false w = (length (waiting v) ≡ room v) × (waiting w ≡ waiting v)

  -- what `first` shows: an entry that waits, and in a heap the first of them; none where none waits
  abbrev pub Shown : WaitingList X → Option X → Type 0
  Shown v None = waiting v ≡ []
  Shown v (Some x) = Has (waiting v) x × (InHeap (waiting v) → FirstIn x (waiting v))

  -- what `take` does: the bag loses the one entry that is answered, in a heap the first; none where none waits
  abbrev pub Taken : WaitingList X → Option X → WaitingList X → Type 0
  Taken v None w = (waiting v ≡ []) × (waiting w ≡ [])
  Taken v (Some x) w = IsPermutation (waiting v) (x ∷ waiting w) × Drawn (waiting v) x (waiting w)

-- Where a square lies to a set of cells.
use Rattle.std.specs.Prelude.{ℕ}
use Rattle.board.specs.Squares.{OnBoard, Inside}
use Rattle.store.specs.declared.rectangle.Place.{Place}
use Rattle.store.specs.declared.rectangle.Place.TheVariants.{Apart, Across, Within}
use Rattle.store.specs.declared.store.Answer.{Answer}
use Rattle.store.specs.declared.store.Answer.TheVariants.{Empty, Occupied}
use Rattle.store.specs.Exact.{Shares}

-- what a place says of the square n of level l and the set P
abbrev pub Placed : (ℕ → Type 0) → ℕ → ℕ → Place → Type 0
Placed P l n Apart = OnBoard l n × Shares P l n → ⊥
Placed P l n Across = OnBoard l n × Shares P l n × Shares (λ c. P c → ⊥) l n
Placed P l n Within = OnBoard l n × ((c : ℕ) → Inside l n c → P c)

-- what the store of a set answers of a square that lies so
abbrev pub filled_at : Place → Answer
filled_at Apart = Empty
filled_at Across = Occupied
filled_at Within = Occupied

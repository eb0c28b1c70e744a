-- What an offer of squares does to the list of neighbours.
use Rattle.std.specs.Prelude.{◌≡◌, ℕ, ◌+◌, ◌^◌, ◌<◌, ◌≤◌, List, sum_by}
use Rattle.std.specs.List.{AllByRecursion}
use Rattle.board.specs.Limits.{parts}
use Rattle.board.specs.Squares.{OnBoard}
use Rattle.board.specs.declared.square.Square.{Square}
use Rattle.search.specs.declared.neighbour.Neighbour.{Neighbour}
use Rattle.search.specs.declared.waiting.WaitingList.{WaitingList}
use Rattle.search.specs.Descents.{Under, Outside}
use Rattle.search.specs.Neighbours.{ordered}
use Rattle.search.specs.WaitingLists.{waiting, room, Ready}

-- falls with every square that is taken, also where its quarters come in its place
abbrev pub weight : Square → ℕ
weight s = (parts + 1) ^ s.level

-- an entry for a square above the level l, with its near amount
pub record Entry (l : ℕ) (near : ℕ → ℕ → ℕ) (x : Neighbour) : Type 0 where
  pub above : l < x.square.level
  pub board : OnBoard x.square.level x.square.number
  pub amount : x.amount ≡ near x.square.level x.square.number

-- the squares ss were offered: each waits, or all that lies in it is done
pub record Offered (l : ℕ) (near : ℕ → ℕ → ℕ) (done : ℕ → Type 0) (ss : List Square) (v w : WaitingList Neighbour) : Type 0 where
  pub space : room w ≡ room v
  pub ready : Ready ordered v → Ready ordered w
  pub entries : AllByRecursion (Entry l near) (waiting v) → AllByRecursion (Entry l near) (waiting w)
  pub covers : (q : ℕ) → AllByRecursion (λ x. Outside l q x.square) (waiting w) → AllByRecursion (λ x. Outside l q x.square) (waiting v) × AllByRecursion (λ s. Under l s.level s.number q → done q) ss
  pub lighter : sum_by (λ x. weight x.square) (waiting w) ≤ sum_by (λ x. weight x.square) (waiting v) + sum_by weight ss

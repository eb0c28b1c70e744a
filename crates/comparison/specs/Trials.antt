-- Trying cells: what a trial is made over, and what becomes of it.
use Rattle.std.specs.Prelude.{◌≡◌, ℕ, []}
use Rattle.board.specs.Limits.{codes}
use Rattle.board.specs.Squares.{Inside}
use Rattle.search.specs.WaitingLists.{waiting, room}
use Rattle.store.specs.declared.store.Answer.{Answer}
use Rattle.comparison.specs.declared.ground.Ground.{Ground}
use Rattle.comparison.specs.declared.trial.Trial.{Trial}
use Rattle.comparison.specs.Calls.{Improves, Source}
use Rattle.comparison.specs.World.{World, InFilm, KeyedAt}

module _ {A B M : Type 0} (film : A → ℕ → ℕ → Answer) (drawing : B → ℕ → ℕ → Answer) (amount : M → ℕ → ℕ → ℕ) where
  -- the stores, the measure and the places, with so many for suspects
  abbrev pub over : ℕ → Ground A B M → World
  over n g = record {
    film = film g.film;
    drawing = drawing g.drawing;
    measure = amount g.measure;
    suspects = n;
    neighbours = room g.neighbours;
  }

  -- the same stores, measure and places; no neighbour waits where none waited
  pub record Stays (u v : Ground A B M) : Type 0 where
    pub world : over 0 v ≡ over 0 u
    pub idle : waiting u.neighbours ≡ [] → waiting v.neighbours ≡ []

  -- a walk over a square, as a visitor: it goes down to cells, and does not count on cell order
  abbrev pub floor : Trial A B M → ℕ
  floor v = 0

  abbrev pub since : Trial A B M → ℕ
  since v = codes

  -- the cell c of the square does not improve the figures
  abbrev pub done : Trial A B M → ℕ → Type 0
  done v c = Inside v.square.level v.square.number c → InFilm (over 0 v.ground) c → (k p : ℕ) → KeyedAt (over 0 v.ground) 0 c k p → Improves v.figures k c → ⊥

  -- v is u after some cells of the square were tried
  pub record Dived (u v : Trial A B M) : Type 0 where
    pub stays : Stays u.ground v.ground
    pub square : v.square ≡ u.square
    pub source : Source (over 0 u.ground) (Inside u.square.level u.square.number) u.figures v.figures

  abbrev pub comes : Trial A B M → Trial A B M → Type 0
  comes u v = Dived u v

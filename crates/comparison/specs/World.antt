-- What a comparison is made over, as plain data: the answers of the two stores, the measure, and the places of the two waiting lists.
use Rattle.std.specs.Prelude.{ℕ, zero, suc, ◌+◌, ◌*◌}
use Rattle.board.specs.Distances.{distance}
use Rattle.board.specs.Limits.{parts}
use Rattle.board.specs.Measures.{MeasureLaws}
use Rattle.board.specs.Strays.{Nearest, Strays}
use Rattle.search.specs.Keys.{Keyed}
use Rattle.store.specs.Stores.{Holds, StoreFacts}
use Rattle.store.specs.declared.store.Answer.{Answer}
use Rattle.store.specs.declared.store.Answer.TheVariants.{Empty, Occupied, Unknown}

pub record World : Type 0 where
  pub film : ℕ → ℕ → Answer
  pub drawing : ℕ → ℕ → Answer
  pub measure : ℕ → ℕ → ℕ
  -- how many suspects may wait, and how many neighbours
  pub suspects : ℕ
  pub neighbours : ℕ

-- what the stores and the measure owe
pub record Facts (w : World) : Type 0 where
  pub film : StoreFacts w.film
  pub drawing : StoreFacts w.drawing
  pub measure : MeasureLaws w.measure

-- 0 of an empty square, else 1
abbrev pub unless_empty : Answer → ℕ
unless_empty Empty = 0
unless_empty Occupied = 1
unless_empty Unknown = 1

-- f 0 + .. + f (k - 1)
abbrev pub sum_to : (ℕ → ℕ) → ℕ → ℕ
sum_to f zero = 0
sum_to f (suc k) = sum_to f k + f k

module _ (w : World) where
  abbrev pub InFilm : ℕ → Type 0
  InFilm c = Holds w.film c

  abbrev pub InDrawing : ℕ → Type 0
  InDrawing c = Holds w.drawing c

  -- the distance of two cells
  abbrev pub dist : ℕ → ℕ → ℕ
  dist a b = distance w.measure a b

  -- b is the first of the cells of the drawing that are nearest to a
  abbrev pub NearestTo : ℕ → ℕ → Type 0
  NearestTo a b = Nearest (distance w.measure) (Holds w.drawing) a b

  -- the square n of level l has the key k and the partner p
  abbrev pub KeyedAt : ℕ → ℕ → ℕ → ℕ → Type 0
  KeyedAt l n k p = Keyed w.measure w.drawing l n k p

  -- d is the distance from film to drawing, and a and b are the first pair of cells that shows it
  abbrev pub Strayed : ℕ → ℕ → ℕ → Type 0
  Strayed d a b = Strays (distance w.measure) (Holds w.film) (Holds w.drawing) d a b

  -- how many squares the film does not call empty, among a square and all below it
  unfoldable pub squares_in : ℕ → ℕ → ℕ
  squares_in zero n = unless_empty (w.film 0 n)
  squares_in (suc l) n = unless_empty (w.film (suc l) n) + sum_to (λ k. squares_in l (parts * n + k)) parts

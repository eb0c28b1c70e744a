-- Windows: the cells of a store that lie in a set.
use Rattle.std.specs.Prelude.{◌≡◌, ℕ, ◌≢◌}
use Rattle.board.specs.Squares.{OnBoard, Inside}
use Rattle.store.specs.declared.rectangle.Place.{Place}
use Rattle.store.specs.declared.rectangle.Place.TheVariants.{Apart, Across, Within}
use Rattle.store.specs.declared.rectangle.Rectangle.{Rectangle}
use Rattle.store.specs.declared.store.Answer.{Answer}
use Rattle.store.specs.declared.store.Answer.TheVariants.{Empty, Occupied, Unknown}
use Rattle.store.specs.Exact.{Shares}
use Rattle.store.specs.Rectangles.{located}

-- what is left of an answer where the edge goes through the square
abbrev pub blurred : Answer → Answer
blurred Empty = Empty
blurred Occupied = Unknown
blurred Unknown = Unknown

-- what a window answers of a square that lies so, by the answer of the store below
abbrev pub seen_at : Place → Answer → Answer
seen_at Apart a = Empty
seen_at Across a = blurred a
seen_at Within a = a

-- the table of a window
abbrev pub windowed : Rectangle → (ℕ → ℕ → Answer) → ℕ → ℕ → Answer
windowed r t l n = seen_at (located r l n) (t l n)

-- the table u shows, of the store with the table t, the cells of the set P
pub record Sees (P : ℕ → Type 0) (t u : ℕ → ℕ → Answer) : Type 0 where
  -- wholly inside it answers as below, and wholly outside it is empty
  pub inside : (l n : ℕ) → OnBoard l n → ((c : ℕ) → Inside l n c → P c) → u l n ≡ t l n
  pub outside : (l n : ℕ) → (Shares P l n → ⊥) → u l n ≡ Empty
  -- across the edge it is empty where the store below is, else unknown
  pub across_empty : (l n : ℕ) → t l n ≡ Empty → u l n ≡ Empty
  pub across_unknown : (l n : ℕ) → OnBoard l n → Shares P l n → Shares (λ c. P c → ⊥) l n → (t l n ≢ Empty) → u l n ≡ Unknown

-- The key and partner of a square, and what keys say of distances.
use Rattle.std.specs.Prelude.{◌≡◌, ℕ, ◌+◌, ◌*◌, ◌<◌, ◌≤◌, ◌⊎◌}
use Rattle.board.specs.Limits.{parts, edge, codes, most}
use Rattle.board.specs.Squares.{Inside}
use Rattle.board.specs.Distances.{distance, far}
use Rattle.board.specs.Strays.{Within, Nearest}
use Rattle.store.specs.declared.store.Answer.{Answer}
use Rattle.store.specs.Stores.{Counts, Holds}

-- B has the table t, and f is the measure
module _ (f : ℕ → ℕ → ℕ) (t : ℕ → ℕ → Answer) where
  -- of the squares of level l that count, p has the smallest far amount k to the square n, and is the first of equals
  pub record Partnered (l n k p : ℕ) : Type 0 where
    pub counted : Counts (t l p)
    pub amount : k ≡ far f l n l p
    pub least : (q : ℕ) → Counts (t l q) → k ≤ far f l n l q
    pub earliest : (q : ℕ) → Counts (t l q) → far f l n l q ≡ k → p ≤ q

  -- no square of level l counts: the amount of the greatest offset, and the number 0
  pub record Unpartnered (l k p : ℕ) : Type 0 where
    pub none : (q : ℕ) → Counts (t l q) → ⊥
    pub amount : k ≡ f edge edge
    pub zero : p ≡ 0

  -- the square n of level l has the key k and the partner p
  abbrev pub Keyed : ℕ → ℕ → ℕ → ℕ → Type 0
  Keyed l n k p = Partnered l n k p ⊎ Unpartnered l k p

  -- what the key k of the square n of level l says: where B holds a cell, no cell of the square is farther from B than k
  abbrev pub KeyBounds : ℕ → ℕ → ℕ → Type 0
  KeyBounds l n k = (a e : ℕ) → a < codes → Inside l n a → Holds t e → Within (distance f) (Holds t) k a

  -- the key k of the square n of level l is not below that of any of its quarters
  abbrev pub KeyFalls : ℕ → ℕ → ℕ → Type 0
  KeyFalls l n k = (j i k' p' : ℕ) → l ≡ j + 1 → i < parts → Keyed j (parts * n + i) k' p' → k' ≤ k

  -- where the square is a cell and B holds a cell, k is the distance of the cell from B, and p the nearest cell of B, the first of equals
  abbrev pub KeyOfCell : ℕ → ℕ → ℕ → ℕ → Type 0
  KeyOfCell l n k p = (e : ℕ) → l ≡ 0 → n < codes → Holds t e → Nearest (distance f) (Holds t) n p × (k ≡ distance f n p)

  -- what is so of all keys
  pub record KeyLaws : Type 0 where
    pub bounds : (l n k p : ℕ) → Keyed l n k p → KeyBounds l n k
    pub falls : (l n k p : ℕ) → Keyed l n k p → KeyFalls l n k
    pub of_cell : (l n k p : ℕ) → Keyed l n k p → KeyOfCell l n k p
    pub limited : (l n k p : ℕ) → Keyed l n k p → k ≤ most
    pub one : (l n k p k' p' : ℕ) → Keyed l n k p → Keyed l n k' p' → (k ≡ k') × (p ≡ p')

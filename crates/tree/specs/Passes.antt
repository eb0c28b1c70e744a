-- What the steps of the writer do: one pass over the cells writes a level, block by block.
use Rattle.std.specs.Prelude.{◌≡◌, ℕ, suc, ◌*◌, ◌/◌, ◌%◌, ◌^◌, ◌<◌, ◌≤◌, Bool, cond, List, [], ◌∷◌, ◌++◌, ◌==◌, ◌≢◌, bit_or, slice_index}
use Rattle.board.specs.Limits.{parts}
use Rattle.tree.specs.Bitmaps.{bits}

-- the four bits of a block
abbrev pub nibble : ℕ → List Bool
nibble b = bits (b ∷ []) parts

-- the blocks from here on: the square p has the quarters in the block so far, and these cells are left
unfoldable pub emit : ℕ → ℕ → ℕ → List ℕ → List Bool
emit l p block [] = nibble block
emit l p block (c ∷ cs) =
    cond (c / parts ^ l / parts == p)
    (emit l p (bit_or block (2 ^ (c / parts ^ l % parts))) cs)
    (nibble block ++ emit l (c / parts ^ l / parts) (2 ^ (c / parts ^ l % parts)) cs)

-- all blocks of a level, from the square of the first cell on
abbrev pub row : ℕ → List ℕ → List Bool
row l codes = emit l (slice_index codes 0 / parts ^ suc l) 0 codes

-- blocks were put behind those that xs had before: the bytes behind are as in xs, and half a byte that is left is 0
pub record Put (xs ys : List ℕ) (before after : ℕ) (blocks : List Bool) : Type 0 where
  pub written : bits ys (parts * after) ≡ bits xs (parts * before) ++ blocks
  pub kept : (k : ℕ) → after ≤ 2 * k → before ≤ 2 * k → slice_index ys k ≡ slice_index xs k
  pub spare : before < after → after % 2 ≡ 1 → slice_index ys (after / 2) < 16

-- from level r on, and not below, two cells lie in one square; the height counts as the last level
pub record Joins (a b height r : ℕ) : Type 0 where
  pub low : 1 ≤ r
  pub high : r ≤ height
  pub apart : (m : ℕ) → 1 ≤ m → m < r → a / parts ^ m ≢ b / parts ^ m
  pub same : r < height → a / parts ^ r ≡ b / parts ^ r

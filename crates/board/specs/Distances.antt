-- The distance of two cells, and the near and far amounts of two squares: m of level l, and n of level k.
use Rattle.std.specs.Prelude.{◌≡◌, ℕ, ◌+◌, ◌*◌, ◌/◌, ◌^◌, ◌<◌, ◌≤◌}
use Rattle.board.specs.Limits.{edge, codes, most}
use Rattle.board.specs.Morton.{x_of, y_of}
use Rattle.board.specs.Spans.{first, last, least, greatest, gap}

unfoldable pub distance : (ℕ → ℕ → ℕ) → ℕ → ℕ → ℕ
distance f a b = f (gap (x_of a) (x_of b)) (gap (y_of a) (y_of b))

-- an offset of two squares along an axis on which they have the places p and q
abbrev pub between : (ℕ → ℕ → ℕ → ℕ → ℕ) → ℕ → ℕ → ℕ → ℕ → ℕ
between step l p k q = step (first l p) (last l p) (first k q) (last k q)

unfoldable pub near : (ℕ → ℕ → ℕ) → ℕ → ℕ → ℕ → ℕ → ℕ
near f l m k n = f (between least l (x_of m) k (x_of n)) (between least l (y_of m) k (y_of n))

unfoldable pub far : (ℕ → ℕ → ℕ) → ℕ → ℕ → ℕ → ℕ → ℕ
far f l m k n = f (between greatest l (x_of m) k (x_of n)) (between greatest l (y_of m) k (y_of n))

-- what near and far say, for any measure f
pub record Bounds (f : ℕ → ℕ → ℕ) : Type 0 where
  pub ordered : (l m k n : ℕ) → near f l m k n ≤ far f l m k n
  pub limited : (l m k n : ℕ) → far f l m k n ≤ most
  pub topped : (l m k n : ℕ) → far f l m k n ≤ f edge edge
  -- the square of level l + i around the square m of level l has the number m / 4 ^ i
  pub outer_near : (l m k n i j : ℕ) → near f (l + i) (m / 4 ^ i) (k + j) (n / 4 ^ j) ≤ near f l m k n
  pub outer_far : (l m k n i j : ℕ) → far f l m k n ≤ far f (l + i) (m / 4 ^ i) (k + j) (n / 4 ^ j)
  -- quarters
  pub quarter_near : (l m k n q : ℕ) → q < 4 → near f l m (k + 1) n ≤ near f l m k (4 * n + q)
  pub quarters_far : (l m k n q r : ℕ) → q < 4 → r < 4 → far f l (4 * m + q) k (4 * n + r) ≤ far f (l + 1) m (k + 1) n
  -- cells
  pub cell_near : (a b : ℕ) → a < codes → b < codes → near f 0 a 0 b ≡ distance f a b
  pub cell_far : (a b : ℕ) → a < codes → b < codes → far f 0 a 0 b ≡ distance f a b
  pub cell_limited : (a b : ℕ) → a < codes → b < codes → distance f a b ≤ most
  pub near_cells : (l k a b : ℕ) → a < codes → b < codes → near f l (a / 4 ^ l) k (b / 4 ^ k) ≤ distance f a b
  pub far_cells : (l k a b : ℕ) → a < codes → b < codes → distance f a b ≤ far f l (a / 4 ^ l) k (b / 4 ^ k)
  -- either square may come first
  pub near_turned : (l m k n : ℕ) → near f l m k n ≡ near f k n l m
  pub distance_turned : (a b : ℕ) → distance f a b ≡ distance f b a
  pub far_turned : (l m k n : ℕ) → far f l m k n ≡ far f k n l m

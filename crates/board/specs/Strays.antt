-- How far one set of cells strays from another: the directed Hausdorff distance, with the pair of cells that shows it.
-- Cells go by their codes; A and B say which cells the two sets hold, and dist is the distance of two cells.
use Rattle.std.specs.Prelude.{◌≡◌, ℕ, ◌<◌, ◌≤◌, ◌⊎◌}

-- the pair (a, b) comes no later than (c, e) in the order of pairs
abbrev pub PairOrder : ℕ → ℕ → ℕ → ℕ → Type 0
PairOrder a b c e = (a < c) ⊎ ((a ≡ c) × (b ≤ e))

module _ (dist : ℕ → ℕ → ℕ) where
  -- no cell of B is nearer to c than d
  abbrev pub AtLeast : (ℕ → Type 0) → ℕ → ℕ → Type 0
  AtLeast B d c = (e : ℕ) → B e → d ≤ dist c e

  -- some cell of B is no farther from c than d
  abbrev pub Within : (ℕ → Type 0) → ℕ → ℕ → Type 0
  Within B d c = (e : ℕ) × B e × (dist c e ≤ d)

  -- b is a cell of B, none is nearer to a, and b is the first of those as near
  pub record Nearest (B : ℕ → Type 0) (a b : ℕ) : Type 0 where
    pub held : B b
    pub nearest : AtLeast B (dist a b) a
    pub earliest : (c : ℕ) → B c → dist a c ≡ dist a b → b ≤ c

  -- a is a cell of A, b is its nearest cell of B, at the distance d; no cell of A is farther from B, and a is the first of those as far
  pub record Strays (A B : ℕ → Type 0) (d a b : ℕ) : Type 0 where
    pub held : A a
    pub partner : Nearest B a b
    pub amount : d ≡ dist a b
    pub farthest : (c : ℕ) → A c → Within B d c
    pub earliest : (c : ℕ) → A c → AtLeast B d c → a ≤ c

  -- the cells a of A and b of B show the distance d: no cell of B is nearer to a, and no cell of A is farther from B
  pub record Shows (A B : ℕ → Type 0) (d a b : ℕ) : Type 0 where
    pub film : A a
    pub drawing : B b
    pub amount : d ≡ dist a b
    pub nearest : AtLeast B d a
    pub farthest : (c : ℕ) → A c → Within B d c

-- What the relation says, for any distance and any two sets: it names one distance and one pair at most; the pair shows the distance; of all pairs that show a distance it is the first, and they all show this one.
pub record StraysNamesOne (dist : ℕ → ℕ → ℕ) (A B : ℕ → Type 0) : Type 0 where
  pub one : (d a b d' a' b' : ℕ) → Strays dist A B d a b → Strays dist A B d' a' b' → (d ≡ d') × (a ≡ a') × (b ≡ b')
  pub shown : (d a b : ℕ) → Strays dist A B d a b → Shows dist A B d a b
  pub first : (d a b d' c e : ℕ) → Strays dist A B d a b → Shows dist A B d' c e → (d ≡ d') × PairOrder a b c e

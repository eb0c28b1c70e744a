-- Either of two stores: the cells of the one and of the other.
use Rattle.std.specs.Prelude.{◌≡◌, ℕ, ◌⊎◌}
use Rattle.store.specs.declared.store.Answer.{Answer}
use Rattle.store.specs.declared.store.Answer.TheVariants.{Empty, Occupied, Unknown}
use Rattle.store.specs.Stores.{Counts}

-- what is known of a square by the answers of both stores
abbrev pub joined_at : Answer → Answer → Answer
joined_at Empty b = b
joined_at Occupied b = Occupied
joined_at Unknown Empty = Unknown
joined_at Unknown Occupied = Occupied
joined_at Unknown Unknown = Unknown

-- the table of an either
abbrev pub joined : (ℕ → ℕ → Answer) → (ℕ → ℕ → Answer) → ℕ → ℕ → Answer
joined s t l n = joined_at (s l n) (t l n)

-- the table u stands for both stores, with the tables s and t
pub record Joins (s t u : ℕ → ℕ → Answer) : Type 0 where
  -- a square counts where one of them counts it, and is empty where both call it so
  pub counted : (l n : ℕ) → Counts (s l n) ⊎ Counts (t l n) → Counts (u l n)
  pub empty : (l n : ℕ) → s l n ≡ Empty → t l n ≡ Empty → u l n ≡ Empty
  -- else it is unknown
  pub unknown : (l n : ℕ) → (Counts (s l n) → ⊥) → (Counts (t l n) → ⊥) → ((s l n ≡ Empty) × (t l n ≡ Empty) → ⊥) → u l n ≡ Unknown

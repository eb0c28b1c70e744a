-- The first cell of a store, with the table t.
use Rattle.std.specs.Prelude.{ℕ, ◌≤◌, Some, None, Option}
use Rattle.store.specs.declared.store.Answer.{Answer}
use Rattle.store.specs.Stores.{Holds}

module _ (t : ℕ → ℕ → Answer) where
  -- the store holds no cell
  abbrev pub NoneHeld : Type 0
  NoneHeld = (c : ℕ) → Holds t c → ⊥

  -- the store holds the cell f, and none before it
  pub record FirstHeld (f : ℕ) : Type 0 where
    pub held : Holds t f
    pub first : (c : ℕ) → Holds t c → f ≤ c

  -- what was found so far is the first cell
  abbrev pub FoundFirst : Option ℕ → Type 0
  FoundFirst None = Unit {0}
  FoundFirst (Some f) = FirstHeld f

  -- where nothing was found so far, the store does not hold the cell c
  abbrev pub Searched : Option ℕ → ℕ → Type 0
  Searched None c = Holds t c → ⊥
  Searched (Some f) c = Unit {0}

-- The parts of a step.
use Rattle.std.specs.Prelude.{◌≡◌, ℕ, ◌-◌, true, List, [], ◌∷◌, ◌++◌, length, ◌≢◌}
use Rattle.std.specs.List.Sorted.{IsPermutation}
use Rattle.board.specs.Limits.{top}
use Rattle.board.specs.declared.square.Square.{Square}
use Rattle.search.specs.WaitingLists.{waiting, room}
use Rattle.store.specs.declared.store.Answer.{Answer}
use Rattle.store.specs.declared.store.Answer.TheVariants.{Empty}
use Rattle.comparison.specs.declared.comparison.Comparison.{Comparison}
use Rattle.comparison.specs.declared.record.Figures.{Figures}
use Rattle.comparison.specs.declared.suspect.Suspect.{Suspect}
use Rattle.comparison.specs.Calls.{Improves, Right, Picked, Handled}
use Rattle.comparison.specs.Comparisons.{state, world}
use Rattle.board.specs.SquareOrder.{first_code}
use Rattle.comparison.specs.World.{World, KeyedAt}

-- the square q was offered: it is put on the list where it is not empty and improves
pub data Offer (w : World) (f : Figures) (q : Square) : List Suspect → Type 0 where
  put : (e : Suspect) → (w.film q.level q.number ≢ Empty) → e.square ≡ q → Right w e → Improves f e.key (first_code e.square) → Offer w f q (e ∷ [])
  pass_empty : w.film q.level q.number ≡ Empty → Offer w f q []
  pass : (key p : ℕ) → KeyedAt w q.level q.number key p → (Improves f key (first_code q) → ⊥) → Offer w f q []

module _ {A B M : Type 0} (film : A → ℕ → ℕ → Answer) (drawing : B → ℕ → ℕ → Answer) (amount : M → ℕ → ℕ → ℕ) where
  -- c' is c with the squares es put on the list
  pub record Queues (c : Comparison A B M) (es : List Suspect) (c' : Comparison A B M) : Type 0 where
    pub same_world : world film drawing amount c' ≡ world film drawing amount c
    pub waits : IsPermutation (waiting c'.suspects) (es ++ waiting c.suspects)
    pub progress : c'.progress ≡ c.progress

  pub record Offered (c : Comparison A B M) (q : Square) (c' : Comparison A B M) : Type 0 where
    pub es : List Suspect
    pub queues : Queues c es c'
    pub figures : c'.trial.figures ≡ c.trial.figures
    pub offer : Offer (world film drawing amount c) c.trial.figures q es

  -- the first k quarters of the square n of level l + 1 were offered
  pub record Opened (c : Comparison A B M) (l n k : ℕ) (c' : Comparison A B M) : Type 0 where
    pub es : List Suspect
    pub queues : Queues c es c'
    pub figures : c'.trial.figures ≡ c.trial.figures
    pub picked : Picked (world film drawing amount c) c.trial.figures l n k es

  -- the suspect s, which was taken from the list, was handled
  pub record Handles (c : Comparison A B M) (s : Suspect) (c' : Comparison A B M) : Type 0 where
    pub es : List Suspect
    pub queues : Queues c es c'
    pub handled : Handled (world film drawing amount c) s (room c.suspects - length (waiting c.suspects)) c.trial.figures es c'.trial.figures

  -- the comparison was begun anew with the cell a as its witness
  pub record Started (c : Comparison A B M) (a : ℕ) (c' : Comparison A B M) : Type 0 where
    pub same_world : world film drawing amount c' ≡ world film drawing amount c
    pub witness : c'.trial.figures.film ≡ a
    pub partner : KeyedAt (world film drawing amount c) 0 a c'.trial.figures.low c'.trial.figures.drawing
    pub begun : (state c').begun ≡ true
    pub queued : (state c').queued ≡ 1
    pub taken : (state c').taken ≡ 0
    pub board : Suspect
    pub waits : waiting c'.suspects ≡ board ∷ []
    pub whole : board.square ≡ record { level = top; number = 0 }
    pub right : Right (world film drawing amount c) board

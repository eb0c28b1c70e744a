-- Runs over real stores: a film of the cells (0, 0) and (1, 1), and a drawing of the cell (0, 0).
use Rattle.std.specs.Prelude.{◌≡◌, ℕ, List, [], ◌∷◌, ◌++◌, replicate}
use Rattle.board.specs.Measures.{squared}
use Rattle.board.specs.declared.cell.Cell.{Cell}
use Rattle.store.specs.Exact.{exact}
use Rattle.comparison.specs.declared.call.Call.TheVariants.{Begin, Step, Probe, Result}
use Rattle.comparison.specs.Calls.{State, Run, fresh}
use Rattle.comparison.specs.Calls.Said.{begun, stepped, probed, answered, refused}
use Rattle.comparison.specs.World.{World, Facts}

abbrev pub film_codes : List ℕ
film_codes = 0 ∷ 3 ∷ []

abbrev pub drawing_codes : List ℕ
drawing_codes = 0 ∷ []

-- lists of codes, the square measure, and so many places for suspects
abbrev pub films : ℕ → World
films places = record { film = exact film_codes; drawing = exact drawing_codes; measure = squared; suspects = places; neighbours = 1 }

abbrev pub corner : Cell
corner = record { x = 1; y = 1 }

abbrev pub beside : Cell
beside = record { x = 1; y = 0 }

pub record RunsExist : Type 0 where
  pub facts : (places : ℕ) → Facts (films places)
  -- a step is refused before the begin; sixteen squares are opened, from the board down; the cell (1, 1), the last that is queued, is settled; the result is answered
  pub opened_and_settled : (st : State) × (st.queued ≡ 17) × (st.taken ≡ 17)
      × Run (films 4) fresh (Step ∷ Begin ∷ (replicate 16 Step ++ (Step ∷ Result ∷ []))) (refused 16 0 ∷ begun ∷ (replicate 16 stepped ++ (stepped ∷ answered 2 3 0 ∷ []))) st
  -- with the cell (1, 1) waiting, a result is refused; the cell is probed, so that the step drops it; a cell that the film does not hold is refused
  pub probed_and_dropped : (st : State) × (st.queued ≡ 17) × (st.taken ≡ 17)
      × Run (films 4) fresh (Begin ∷ (replicate 16 Step ++ (Result ∷ Probe corner ∷ Step ∷ Result ∷ Probe beside ∷ []))) (begun ∷ (replicate 16 stepped ++ (refused 17 1 ∷ probed ∷ stepped ∷ answered 2 3 0 ∷ refused 15 0 ∷ []))) st
  -- with one place, the board is finished in depth; then nothing waits
  pub finished_in_depth : (st : State) × (st.queued ≡ 1) × (st.taken ≡ 1)
      × Run (films 1) fresh (Begin ∷ Step ∷ Result ∷ Step ∷ []) (begun ∷ stepped ∷ answered 2 3 0 ∷ refused 16 0 ∷ []) st

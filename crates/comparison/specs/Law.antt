-- What is true of every list of calls on a fresh comparison, of what the calls say, and of what they leave.
use Rattle.std.specs.Prelude.{◌≡◌, ℕ, ◌+◌, ◌<◌, ◌≤◌, true, List, [], length, ◌≢◌}
use Rattle.std.specs.List.Sorted.{IsPermutation}
use Rattle.std.specs.List.{AllByRecursion}
use Rattle.board.specs.Limits.{top}
use Rattle.comparison.specs.declared.call.Call.{Call}
use Rattle.comparison.specs.declared.call.Call.TheVariants.{Result}
use Rattle.comparison.specs.World.{World, Facts, InFilm, NearestTo, Strayed, dist, squares_in}
use Rattle.comparison.specs.Calls.{State, Said, Does, Run, fresh, high}
use Rattle.comparison.specs.Calls.Said.{begun, stepped, probed, looked, answered, refused}

-- no call of these began anew
abbrev pub GoesOn : List Said → Type 0
GoesOn os = AllByRecursion (λ o. o ≢ begun) os

-- the figures of the second state are within those of the first
abbrev pub Narrows : State → State → Type 0
Narrows st st' = (st.figures.low ≤ st'.figures.low) × (high st' ≤ high st)

-- the same figures, the same counts, and the same squares wait
pub record Same (st st' : State) : Type 0 where
  pub begun : st.begun ≡ st'.begun
  pub figures : st.figures ≡ st'.figures
  pub queued : st.queued ≡ st'.queued
  pub taken : st.taken ≡ st'.taken
  pub waiting : IsPermutation st.waiting st'.waiting

module _ (w : World) where
  -- some list of calls on a fresh comparison leads to the state
  pub record Reached (st : State) : Type 0 where
    pub calls : List Call
    pub outcomes : List Said
    pub run : Run w fresh calls outcomes st

  -- what holds of a state that has begun
  pub record Sound (st : State) : Type 0 where
    -- there is a distance
    pub distance : (d : ℕ) × (a : ℕ) × (b : ℕ) × Strayed w d a b
    -- low is the distance of the witness from the drawing, and the pair shows it
    pub shown : InFilm w st.figures.film × NearestTo w st.figures.film st.figures.drawing × (st.figures.low ≡ dist w st.figures.film st.figures.drawing)
    pub low_bounds : (d a b : ℕ) → Strayed w d a b → st.figures.low ≤ d
    pub high_bounds : (d a b : ℕ) → Strayed w d a b → d ≤ high st
    pub balanced : st.queued ≡ st.taken + length st.waiting
    pub bounded : st.queued ≤ squares_in w top 0
    pub waits : length st.waiting ≤ w.suspects
    pub finished : st.waiting ≡ [] → Strayed w st.figures.low st.figures.film st.figures.drawing
    -- a result is refused exactly where a square waits
    pub refuses : (o : Said) (st' : State) → Does w st Result o st' → 0 < length st.waiting → o ≡ refused 17 (length st.waiting)
    pub answers : (o : Said) (st' : State) → Does w st Result o st' → st.waiting ≡ [] → o ≡ answered st.figures.low st.figures.film st.figures.drawing

  -- what a call says is so
  abbrev pub TrueOf : Said → Type 0
  TrueOf begun = Unit {0}
  TrueOf stepped = Unit {0}
  TrueOf probed = Unit {0}
  TrueOf (looked low high a b queued taken waiting) =
      ((d x y : ℕ) → Strayed w d x y → (low ≤ d) × (d ≤ high)) × InFilm w a × NearestTo w a b × (low ≡ dist w a b)
      × (queued ≡ taken + waiting) × (queued ≤ squares_in w top 0) × (waiting ≤ w.suspects)
  TrueOf (answered d a b) = Strayed w d a b
  TrueOf (refused number place) = number ≡ 18 → ⊥

  -- what holds of a state that calls led to
  pub record Lawful (st : State) : Type 0 where
    pub sound : st.begun ≡ true → Sound st
    -- until a call begins anew, low does not fall and high does not rise
    pub narrows : st.begun ≡ true → (cs : List Call) (os : List Said) (st' : State) → Run w st cs os st' → GoesOn os → Narrows st st'

  -- what every list of calls on a fresh comparison keeps: each call says what is so, and the state is lawful
  pub record Law (cs : List Call) (os : List Said) (st : State) : Type 0 where
    pub says : AllByRecursion TrueOf os
    pub lawful : Lawful st

  -- what one more call keeps
  pub record KeptBy (o : Said) (st' : State) : Type 0 where
    pub reached : Reached st'
    pub says : TrueOf o
    pub lawful : Lawful st'

-- over all stores and measures
abbrev pub RunsKeepTheLaw : Type 0
RunsKeepTheLaw = (w : World) → Facts w → (cs : List Call) (os : List Said) (st : State) → Run w fresh cs os st → Law w cs os st

-- the relation leaves no choice
abbrev pub RunsAreOne : Type 0
RunsAreOne = (w : World) → Facts w → (cs : List Call) (os os' : List Said) (st st' : State) → Run w fresh cs os st → Run w fresh cs os' st' → (os ≡ os') × Same st st'

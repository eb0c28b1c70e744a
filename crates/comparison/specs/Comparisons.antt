-- A comparison as the world that it is made over and the state that it has come to, and what a call of it does.
use Rattle.std.specs.Prelude.{◌≡◌, ℕ, List, [], map, replicate, Some, None, Option, Ok, Err, sum_by, Result}
use Rattle.std.specs.Option.{is_some}
use Rattle.search.specs.Offers.{weight}
use Rattle.search.specs.WaitingLists.{waiting, room}
use Rattle.store.specs.declared.store.Answer.{Answer}
use Rattle.comparison.specs.declared.call.Call.{Call}
use Rattle.comparison.specs.declared.call.Call.TheVariants.{Step}
use Rattle.comparison.specs.declared.call.Outcome.{Outcome}
use Rattle.comparison.specs.declared.call.Outcome.TheVariants.{Refused}
use Rattle.comparison.specs.declared.comparison.Comparison.{Comparison}
use Rattle.comparison.specs.declared.fault.Fault.{Fault}
use Rattle.comparison.specs.declared.record.Record.{Record}
use Rattle.comparison.specs.Calls.{State, Does, Run, counted, fresh, said}
use Rattle.comparison.specs.Calls.Said.{stepped}
use Rattle.comparison.specs.Faults.{fault_numbered}
use Rattle.comparison.specs.Law.{Law, Lawful, Reached, KeptBy}
use Rattle.comparison.specs.Trials.{over}
use Rattle.comparison.specs.World.{World}

-- an answer or a refusal, as an outcome
abbrev pub told : {X : Type 0} → (X → Outcome) → Result X Fault → Outcome
told k (Ok x) = k x
told k (Err f) = Refused f

-- how many squares were queued and taken; none where the comparison was never begun
abbrev pub queued_by : Option Record → ℕ
queued_by None = 0
queued_by (Some r) = r.queued

abbrev pub taken_by : Option Record → ℕ
taken_by None = 0
taken_by (Some r) = r.taken

module _ {A B M : Type 0} where
  abbrev pub state : Comparison A B M → State
  state c = record {
    begun = is_some c.progress;
    figures = c.trial.figures;
    queued = queued_by c.progress;
    taken = taken_by c.progress;
    waiting = waiting c.suspects;
  }

  -- falls with every step
  abbrev pub weighed : Comparison A B M → ℕ
  weighed c = sum_by (λ s. weight s.square) (waiting c.suspects)

  module _ (film : A → ℕ → ℕ → Answer) (drawing : B → ℕ → ℕ → Answer) (amount : M → ℕ → ℕ → ℕ) where
    abbrev pub world : Comparison A B M → World
    world c = over film drawing amount (room c.suspects) c.trial.ground

    -- what a call does: it stays over the same world, says what the relation of calls says, and leaves that state; where calls on a fresh comparison led here, it keeps the law
    pub record Did (c : Comparison A B M) (call : Call) (o : Outcome) (c' : Comparison A B M) : Type 0 where
      pub same_world : world c' ≡ world c
      pub does : Does (world c) (state c) call (said o) (state c')
      pub keeps : Reached (world c) (state c) → KeptBy (world c) (said o) (state c')

    -- the same of a list of calls; on a fresh comparison they keep the law
    pub record Ran (c : Comparison A B M) (calls : List Call) (os : List Outcome) (c' : Comparison A B M) : Type 0 where
      pub same_world : world c' ≡ world c
      pub run : Run (world c) (state c) calls (map said os) (state c')
      pub law : state c ≡ fresh → Law (world c) calls (map said os) (state c')

    -- so many steps were made, until nothing waited; where calls on a fresh comparison led here, the state is lawful
    pub record Finished (c : Comparison A B M) (n : ℕ) (c' : Comparison A B M) : Type 0 where
      pub same_world : world c' ≡ world c
      pub steps : ℕ
      pub many : n ≡ counted 0 steps
      pub run : Run (world c) (state c) (replicate steps Step) (replicate steps stepped) (state c')
      pub nothing_waits : waiting c'.suspects ≡ []
      pub keeps : Reached (world c) (state c) → Reached (world c) (state c') × Lawful (world c) (state c')

    -- the same, or a refusal, which changes nothing, where the comparison was never begun
    abbrev pub Ended : Comparison A B M → Result ℕ Fault → Comparison A B M → Type 0
    Ended c (Ok n) c' = Finished c n c'
    Ended c (Err f) c' = (c.progress ≡ None) × (fault_numbered f ≡ (16, 0)) × (c' ≡ c)

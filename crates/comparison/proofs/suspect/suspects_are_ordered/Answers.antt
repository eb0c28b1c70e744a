use Rattle.comparison.specs.SuspectFacts.{suspects_are_ordered}
use Rattle.comparison.proofs.suspect.suspects_are_ordered.Goals as goal

pub returns : goal.returns
returns c = record { order = suspects_are_ordered }

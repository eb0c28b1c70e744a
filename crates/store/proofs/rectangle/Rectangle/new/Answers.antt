use Rattle.store.specs.ExactFacts.{set_of}
use Rattle.store.specs.RectangleFacts.{exactly_rectangle}
use Rattle.store.proofs.rectangle.Rectangle.new.Goals as goal

pub returns-clause-exact : goal.returns-clause-exact
returns-clause-exact c = exactly_rectangle _

pub returns-clause-holds_its_cells : goal.returns-clause-holds_its_cells
returns-clause-holds_its_cells c = set_of _ _ (exactly_rectangle _)

use Rattle.board.specs.SquareOrderFacts.{squares_are_ordered}
use Rattle.board.proofs.square.squares_are_ordered.Goals as goal

pub returns : goal.returns
returns c = record { order = squares_are_ordered }

use Rattle.board.proofs.Blocks.{squares_are_blocks}
use Rattle.board.proofs.square.squares_are_blocks.Goals as goal

pub returns : goal.returns
returns c = record { blocks = squares_are_blocks }

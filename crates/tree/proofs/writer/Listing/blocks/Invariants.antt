use Rattle.tree.proofs.Counting.{Paired}
use Rattle.tree.proofs.writer.Listing.blocks.Given as goal

abbrev pub invariant-loop-pair : goal.invariant-loop-pair
invariant-loop-pair l = Paired l.self.codes.now l.self.height.levels l.pair-iterator l.t_blocks l.l_blocks

use Rattle.tree.proofs.Putting.{put_even, put_odd}
use Rattle.tree.proofs.writer.Blocks.put.Goals as goal
use Rattle.tree.proofs.writer.Blocks.put.Goals.{then-self-eq0, else-self-eq0}

pub returns-clause-put : goal.returns-clause-put
returns-clause-put c = elim c.if-self-eq0.branch [
  | then-self-eq0 w ↦ rw w.self-is (put_even c.args.self.now.bytes.now c.args.self.now.count c.args.block c.requires.0 c.requires.1 w.if-self-eq0.true)
  | else-self-eq0 w ↦ rw w.self-is (put_odd c.args.self.now.bytes.now c.args.self.now.count c.args.block c.requires.0 c.requires.1 w.if-self-eq0.false)
]

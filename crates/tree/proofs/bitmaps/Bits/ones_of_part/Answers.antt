use Rattle.tree.proofs.Bytes.{part_some}
use Rattle.tree.proofs.bitmaps.Bits.ones_of_part.Goals as goal

pub returns : goal.returns
returns c = part_some c.args.self.now.bytes.now c.args.n

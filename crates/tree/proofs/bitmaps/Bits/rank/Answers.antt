use Rattle.std.proofs.Common.{◌/◌, arith}
use Rattle.tree.proofs.Bytes.{ones_before_le}
use Rattle.tree.proofs.bitmaps.Bits.rank.Goals as goal

pub overflow_add-result : goal.overflow_add-result
overflow_add-result c = omega (arith, c.requires.directory.1 (c.args.n / 512) (omega arith), c.ones_between.ensures, ones_before_le c.args.self.now.bytes.now c.args.n)

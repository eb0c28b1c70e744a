use Rattle.std.proofs.Common.{◌/◌, arith}
use Rattle.tree.proofs.Bytes.{ones_before_le, ones_before_le_mono, ones-range}
use Rattle.tree.proofs.bitmaps.Bits.ones_between.Goals as goal

pub overflow_add-result : goal.overflow_add-result
overflow_add-result c =
    omega (arith, c.ones_of_bytes.ensures, ones-range c.args.self.now.bytes.now (c.args.from / 8) (c.args.to / 8) (omega arith) (omega arith), ones_before_le c.args.self.now.bytes.now c.args.to)

pub overflow_sub-result : goal.overflow_sub-result
overflow_sub-result c =
    omega (arith, c.ones_of_bytes.ensures, ones-range c.args.self.now.bytes.now (c.args.from / 8) (c.args.to / 8) (omega arith) (omega arith), ones_before_le_mono c.args.self.now.bytes.now c.args.from c.args.to (omega arith))

pub returns : goal.returns
returns c =
    omega (arith, c.ones_of_bytes.ensures, ones-range c.args.self.now.bytes.now (c.args.from / 8) (c.args.to / 8) (omega arith) (omega arith), ones_before_le_mono c.args.self.now.bytes.now c.args.from c.args.to (omega arith))

use Rattle.std.proofs.Common.{◌+◌, ◌*◌, arith}
use Rattle.tree.proofs.Bytes.{ones_before_le}
use Rattle.tree.proofs.directory.first_wrong.Goals as goal

pub overflow_add-total : goal.overflow_add-total
overflow_add-total c =
    let l = c.loop-part in
    omega (arith, l.invariant.0, c.ones_of_step-total.ensures, ones_before_le c.args.t.now.bytes.now (512 * (l.part + 1)), c.args.t.now.fits, c.loop-part-test.true)

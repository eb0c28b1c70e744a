use Rattle.std.proofs.Common.{◌≡◌, ◌+◌, ◌*◌, ap, arith}
use Rattle.tree.specs.Reader.{ones_before}
use Rattle.tree.proofs.Bytes.{ones-range}
use Rattle.tree.proofs.directory.ones_of_step.Goals as goal

pub returns : goal.returns
returns c =
    let t = c.args.t.now.bytes.now in
    let k = c.args.part in
    let a : 512 * k ≡ 8 * (64 * k) = omega arith in
    let b : 8 * (64 * k + 64) ≡ 512 * (k + 1) = omega arith in
    omega (arith, c.ones_of_bytes.ensures, ones-range t (64 * k) (64 * k + 64) (omega arith) (omega arith), ap (ones_before t) a, ap (ones_before t) b)

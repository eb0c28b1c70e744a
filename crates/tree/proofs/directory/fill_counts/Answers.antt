use Rattle.std.proofs.Common.{◌≡◌, ◌+◌, ◌-◌, ◌*◌, ◌/◌, ◌<◌, length, take, drop, set, arith, length-drop, length-set}
use Rattle.std.proofs.lemmas.List.{length-take}
use Rattle.tree.proofs.Bytes.{ones_before_le}
use Rattle.tree.proofs.Sizes.{laid-long, laid-is}
use Rattle.tree.proofs.directory.fill_counts.Goals as goal

pub overflow_add-total : goal.overflow_add-total
overflow_add-total c =
    let l = c.loop-part in
    omega (arith, l.invariant.0, c.ones_of_step-total.ensures, ones_before_le c.args.t.now.bytes.now (512 * (l.part + 1)), c.args.t.now.fits, c.loop-part-test.true)

pub overflow_cast-count : goal.overflow_cast-count
overflow_cast-count c =
    let l = c.loop-part in
    omega (arith, l.invariant.0, c.ones_of_step-total.ensures, ones_before_le c.args.t.now.bytes.now (512 * (l.part + 1)), c.args.t.now.fits, c.loop-part-test.true)

pub returns-clause-directory : goal.returns-clause-directory
returns-clause-directory c =
    let l = c.loop-part in
    let n = c.args.t.now.len / 512 in
    let counts = c.args.counts.now in
    let some : 0 < length counts = omega (arith, c.requires) in
    let long : length (take (n + 1 - 1) (drop 1 (set counts 0 0))) ≡ n =
    omega (arith, length-take (n + 1 - 1) (drop 1 (set counts 0 0)), length-drop 1 (set counts 0 0), length-set counts 0 0, c.requires) in
    let whole : length l.count-items ≡ n = omega (arith, long, l.auto.count-items) in (
      omega (arith, whole, laid-long counts l.count-items (n + 1 - 1) some),
      λ j h. laid-is counts l.count-items (n + 1 - 1) some c.args.t.now.bytes.now (λ i lt. l.invariant.1 i (omega (arith, long, c.loop-part-test.false))) j (omega arith),
    )

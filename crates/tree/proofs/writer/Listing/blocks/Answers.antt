use Rattle.std.proofs.Common.{length, ap, sym, arith}
use Rattle.tree.proofs.Whole.{some_cell, no_cell, none_lower, none_upper}
use Rattle.tree.proofs.Counting.{paired_start, paired_few, paired_apart, paired_same, paired_end}
use Rattle.tree.proofs.Listing.{listed}
use Rattle.tree.proofs.writer.Listing.blocks.Goals as goal

pub loop-pair-init : goal.loop-pair-init
loop-pair-init c =
    let s = c.args.self.now in
    paired_start s.codes.now s.height.levels c.into_iter-pair-iterator.result (cc) (cc) (some_cell s.codes.now c.if-is_empty.ensures) s.height.in_range.0 s.height.in_range.1

pub loop-pair-preserved-then-joined-gt1 : goal.loop-pair-preserved-then-joined-gt1
loop-pair-preserved-then-joined-gt1 c =
    let s = c.args.self.now in
    paired_apart s.codes.now s.height.levels c.loop-pair.t_blocks c.loop-pair.l_blocks c.joined_at-joined.result c.loop-pair.pair-iterator c.next.new.self c.loop-pair.invariant c.next.result c.in-Some.pair
    c.in-Some.is c.next.ensures.steps s.height.in_range.1 s.fits c.joined_at-joined.ensures c.if-joined-gt1.true

pub loop-pair-preserved : goal.loop-pair-preserved
loop-pair-preserved c =
    let s = c.args.self.now in
    paired_same s.codes.now s.height.levels c.loop-pair.t_blocks c.loop-pair.l_blocks c.joined_at-joined.result c.loop-pair.pair-iterator c.next.new.self c.loop-pair.invariant c.next.result c.in-Some.pair
    c.in-Some.is c.next.ensures.steps s.height.in_range.1 s.fits c.joined_at-joined.ensures c.if-joined-gt1.false

pub returns : goal.returns
returns c =
    let s = c.args.self.now in
    let w = c.loop-pair.invariant in
    let few = paired_few _ _ _ _ _ w in
    let r = paired_end s.codes.now s.height.levels c.loop-pair.pair-iterator c.next.new.self c.loop-pair.t_blocks c.loop-pair.l_blocks (some_cell s.codes.now c.if-is_empty.ensures)
    s.height.in_range.0 (listed s) w c.next.result c.in-None.is c.next.ensures.steps in
    record { upper = r.0; lower = r.1; few = (omega (arith, few, s.rises.short), omega (arith, few, s.rises.short)) }

pub returns-then-self-eq1 : goal.returns-then-self-eq1
returns-then-self-eq1 c =
    let s = c.args.self.now in
    let e = none_lower s.codes.now s.height.levels (no_cell s.codes.now c.if-is_empty.ensures) c.if-self-eq1.true in
    record { upper = sym (ap length e.1); lower = ap length e.0; few = (omega arith, omega arith) }

pub returns-else-self-eq1 : goal.returns-else-self-eq1
returns-else-self-eq1 c =
    let s = c.args.self.now in
    let e = none_upper s.codes.now s.height.levels (no_cell s.codes.now c.if-is_empty.ensures) c.if-self-eq1.false s.height.in_range.0 in
    record { upper = ap length e.0; lower = sym (ap length e.1); few = (omega arith, omega arith) }

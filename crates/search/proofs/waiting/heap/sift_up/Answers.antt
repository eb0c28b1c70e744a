use Rattle.std.proofs.Common.{◌-◌, ◌/◌, ◌<◌, length, sym, ◌∙◌, arith}
use Rattle.std.proofs.Permutation.{as_core}
use Rattle.std.proofs.HeapSift as sifts
use Rattle.std.proofs.lemmas.List.Sorted.{IsPermutation-refl, IsPermutation-trans}
use Rattle.std.specs.Cmp.{back_total}
use Rattle.std.specs.Ordering.{flip_args}
use Rattle.search.proofs.waiting.heap.sift_up.Goals as goal

pub loop-at-init : goal.loop-at-init
loop-at-init g c = (c.requires, omega arith, IsPermutation-refl c.args.s.now, sifts.rise_begins (flip_args g.T.Ord.cmp) (back_total g.met.T.Ord.total) c.args.s.now c.args.at)

pub loop-at-preserved : goal.loop-at-preserved
loop-at-preserved g c =
    let l = c.loop-at in
    let xs = c.args.s.now in
    let ys = l.s in
    let zs = c.swap.new.self in
    let told = c.swap.ensures in
    let up : 0 < l.at = c.loop-at-test.true in
    let in' : l.at < length ys = l.invariant.0 in (
      omega (arith, told.len),
      omega arith,
      IsPermutation-trans xs ys zs l.invariant.2 told.permutation,
      sifts.rise_steps (flip_args g.T.Ord.cmp) (back_total g.met.T.Ord.total) xs ys zs c.args.at l.at up l.invariant.1 in' (told.after ∙ sym (as_core ys ((l.at - 1) / 2) l.at)) c.if-comes_before.ensures l.invariant.3,
    )

pub returns-else-comes_before-clause-rises : goal.returns-else-comes_before-clause-rises
returns-else-comes_before-clause-rises g c =
    let l = c.loop-at in
    sifts.rise_rests (flip_args g.T.Ord.cmp) (back_total g.met.T.Ord.total) c.args.s.now l.s c.args.at l.at c.if-comes_before.ensures l.invariant.3

pub returns-after-loop-at-clause-rises : goal.returns-after-loop-at-clause-rises
returns-after-loop-at-clause-rises g c =
    let l = c.loop-at in
    sifts.rise_tops (flip_args g.T.Ord.cmp) (back_total g.met.T.Ord.total) c.args.s.now l.s c.args.at l.at (omega arith) l.invariant.3

use Rattle.std.proofs.Common.{◌≡◌, length, sym, ◌∙◌, subst, arith}
use Rattle.std.specs.BinaryHeap.Sift.{IsGreaterChild}
use Rattle.std.proofs.Permutation.{as_core}
use Rattle.std.proofs.HeapSift as sifts
use Rattle.std.proofs.lemmas.List.Sorted.{IsPermutation-refl, IsPermutation-trans}
use Rattle.std.specs.Cmp.{back_total}
use Rattle.std.specs.Ordering.{flip_args}
use Rattle.search.proofs.waiting.heap.sift_down.Goals as goal

pub loop-at-init : goal.loop-at-init
loop-at-init g c = (IsPermutation-refl c.args.s.now, sifts.sink_begins (flip_args g.T.Ord.cmp) (back_total g.met.T.Ord.total) c.args.s.now 0 (length c.args.s.now))

pub returns-then-not-comes_before-clause-sinks : goal.returns-then-not-comes_before-clause-sinks
returns-then-not-comes_before-clause-sinks g c =
    let l = c.loop-at in
    let R = flip_args g.T.Ord.cmp in
    let best = subst (IsGreaterChild R l.s l.at c.first_child-child.result) l.auto.s c.first_child-child.ensures.best in
    sifts.sink_rests R (back_total g.met.T.Ord.total) c.args.s.now l.s 0 (length c.args.s.now) l.at c.first_child-child.result best c.if-not-comes_before.ensures l.invariant.1

pub loop-at-preserved : goal.loop-at-preserved
loop-at-preserved g c =
    let l = c.loop-at in
    let R = flip_args g.T.Ord.cmp in
    let xs = c.args.s.now in
    let ys = l.s in
    let zs = c.swap.new.self in
    let n = length xs in
    let long : length ys ≡ n = l.auto.s in
    let child = c.first_child-child.result in
    let b = c.first_child-child.ensures.bound in
    let best = subst (IsGreaterChild R ys l.at child) long c.first_child-child.ensures.best in
    let told = c.swap.ensures in (
      IsPermutation-trans xs ys zs l.invariant.0 told.permutation,
      sifts.sink_steps R (back_total g.met.T.Ord.total) xs ys zs 0 n l.at child (omega arith) b.1 b.2 (omega arith) (omega arith) (told.after ∙ sym (as_core ys l.at child)) best c.if-not-comes_before.ensures l.invariant.1,
    )

pub returns-clause-sinks : goal.returns-clause-sinks
returns-clause-sinks g c =
    let l = c.loop-at in
    sifts.sink_ends (flip_args g.T.Ord.cmp) (back_total g.met.T.Ord.total) c.args.s.now l.s 0 (length c.args.s.now) l.at (omega arith) l.invariant.1

use Rattle.std.proofs.Common.{◌+◌, ◌*◌, length, true, false, refl, subst, add-zero, arith}
use Rattle.std.proofs.HeapSift as sifts
use Rattle.std.specs.BinaryHeap.Sift.{IsGreaterChild}
use Rattle.std.specs.Cmp.{back_total}
use Rattle.std.specs.Ordering.{flip_args}
use Rattle.search.proofs.waiting.heap.first_child.Goals as goal

pub returns-then-s-left-clause-best : goal.returns-then-s-left-clause-best
returns-then-s-left-clause-best g c =
    let xs = c.args.s.now in
    sifts.only_child (flip_args g.T.Ord.cmp) (back_total g.met.T.Ord.total) xs c.args.at (c.args.at * 2 + 1) (length xs) refl (omega arith)

pub returns-then-comes_before-clause-best : goal.returns-then-comes_before-clause-best
returns-then-comes_before-clause-best g c =
    let xs = c.args.s.now in
    let e = sifts.either_child (flip_args g.T.Ord.cmp) (back_total g.met.T.Ord.total) xs c.args.at (c.args.at * 2 + 1) (length xs) true refl c.if-comes_before.ensures in
    subst (λ k. IsGreaterChild (flip_args g.T.Ord.cmp) xs c.args.at k (length xs)) (add-zero (c.args.at * 2 + 1)) e.1

pub returns-clause-best : goal.returns-clause-best
returns-clause-best g c =
    let xs = c.args.s.now in
    let e = sifts.either_child (flip_args g.T.Ord.cmp) (back_total g.met.T.Ord.total) xs c.args.at (c.args.at * 2 + 1) (length xs) false refl c.if-comes_before.ensures in
    e.1

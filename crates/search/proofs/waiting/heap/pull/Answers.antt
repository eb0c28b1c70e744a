use Rattle.search.proofs.Bags.{drawn_out}
use Rattle.search.proofs.waiting.heap.pull.Goals as goal

pub returns : goal.returns
returns g c =
    let k = drawn_out g.T.Ord.cmp g.met.T.Ord.total c.args.s.now c.sift_down.new.s _ c.args.n c.index-s-0.result c.index-s-last.result c.requires.0 c.requires.1 c.index-s-0.is c.index-s-last.is c.sift_down.ensures.shuffled c.sift_down.ensures.sinks in
    record { lost = k.0; heap = k.1 }

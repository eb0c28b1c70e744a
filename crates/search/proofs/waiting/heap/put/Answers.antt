use Rattle.search.proofs.Bags.{placed}
use Rattle.search.proofs.waiting.heap.put.Goals as goal

pub returns : goal.returns
returns g c =
    let k = placed g.T.Ord.cmp g.met.T.Ord.total c.args.s.now c.sift_up.new.s _ c.args.n c.args.x c.requires c.sift_up.ensures.shuffled c.sift_up.ensures.rises in
    record { gained = k.0; heap = k.1 }

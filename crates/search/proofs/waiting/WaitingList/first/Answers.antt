use Rattle.std.proofs.Common.{sym, subst}
use Rattle.search.specs.WaitingLists.{Shown}
use Rattle.search.proofs.Bags.{shown}
use Rattle.search.proofs.waiting.WaitingList.first.Goals as goal

pub returns : goal.returns
returns g c =
    let w = c.args.self.now in
    record { first_or_none = subst (Shown g.T.Ord.cmp w) (sym c.in_ok-first.ensures.value) (shown g.T.Ord.cmp g.met.T.Ord.total w c.entries.result.now (sym c.entries.ensures)) }

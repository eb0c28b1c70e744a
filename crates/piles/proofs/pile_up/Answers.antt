use Rattle.piles.proofs.Piled.{piled_as}
use Rattle.piles.proofs.pile_up.Goals as goal

pub returns : goal.returns
returns c =
    let o = c.over-2.ensures.keeps_both in
    let e = c.of.ensures.keeps_both in
    let f = c.over.ensures.keeps_both in
    record { holds = piled_as c.args.outer c.args.frame c.args.inner _ _ _ c.args.list.codes.now _ o.0 (cc) (cc) (cc) }

use Rattle.std.proofs.Common.{◌-◌, length, ap, arith}
use Rattle.board.specs.Limits.{parts}
use Rattle.search.specs.Stacks.{held, from_last}
use Rattle.search.proofs.Piled.{piled_length}
use Rattle.std.proofs.lemmas.List.{length-reverse}
use Rattle.search.proofs.stack.open.Goals as goal

pub push-requires : goal.push-requires
push-requires c =
    let k = c.loop-k.k in
    let ss = held c.args.stack.now in
    omega (arith, ap length c.loop-k.invariant, length-reverse c.loop-k.stack.items, piled_length (from_last c.args.s) (parts - k) ss)

use Rattle.std.proofs.Common.{◌≡◌, arith}
use Rattle.board.specs.Distances.{far}
use Rattle.board.proofs.Bounded.{bounds}
use Rattle.board.proofs.amounts.far.Goals as goal

pub returns : goal.returns
unfolding far
returns g c =
    let m = c.args.m.now in
    let a = c.args.a in
    let b = c.args.b in
    let f = g.M.Measure.amount m in
    let laws = g.M.Measure.laws m in
    let e : c.amount.result ≡ far f a.level a.number b.level b.number = cc in
    record {
      limited = omega (arith, laws.limited c.greatest-dx.result c.greatest-dy.result (omega arith) (omega arith));
      value = e;
      no_cells_farther = λ p q h k i j. rw (e, ← i, ← j) ((bounds f laws).far_cells a.level b.level p q h k);
    }

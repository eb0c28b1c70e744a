use Rattle.std.proofs.Common.{◌≡◌, arith}
use Rattle.board.specs.Distances.{near}
use Rattle.board.proofs.Bounded.{bounds}
use Rattle.board.proofs.amounts.near.Goals as goal

pub returns : goal.returns
unfolding near
returns g c =
    let m = c.args.m.now in
    let a = c.args.a in
    let b = c.args.b in
    let f = g.M.Measure.amount m in
    let laws = g.M.Measure.laws m in
    let e : c.amount.result ≡ near f a.level a.number b.level b.number = cc in
    record {
      limited = omega (arith, laws.limited c.least-dx.result c.least-dy.result (omega arith) (omega arith));
      value = e;
      no_cells_nearer = λ p q h k i j. rw (e, ← i, ← j) ((bounds f laws).near_cells a.level b.level p q h k);
    }

use Rattle.search.proofs.Keying.{key_laws}
use Rattle.search.proofs.nearest.keys_are_bounds.Goals as goal

pub returns : goal.returns
returns g c = record {
  laws = key_laws (g.B.Store.answers c.args._b.now) (g.B.Store.facts c.args._b.now) (g.M.Measure.amount c.args._m.now) (g.M.Measure.laws c.args._m.now);
}

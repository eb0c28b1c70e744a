use Rattle.std.proofs.Common.{arith}
use Rattle.store.specs.ExactFacts.{set_of}
use Rattle.stripes.specs.PatternFacts.{exactly_striped}
use Rattle.stripes.proofs.Stripes.new.Goals as goal

pub returns-clause-exact : goal.returns-clause-exact
returns-clause-exact c = exactly_striped c.args.pitch (omega arith)

pub returns-clause-holds_the_stripes : goal.returns-clause-holds_the_stripes
returns-clause-holds_the_stripes c = set_of _ _ (exactly_striped c.args.pitch (omega arith))

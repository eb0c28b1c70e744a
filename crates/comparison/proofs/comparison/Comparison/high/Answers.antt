use Rattle.std.proofs.Common.{of_calls}
use Rattle.comparison.proofs.Calling.{shown_high}
use Rattle.comparison.proofs.comparison.Comparison.high.Goals as goal

pub returns : goal.returns
returns g c = record {
  greatest = shown_high c.args.self.now.suspects c.first.result c.args.self.now.trial.figures.low c.map_or.result c.first.ensures.first_or_none c.args.self.now.in_order c.map_or.ensures (λ s p. search of_calls);
}

use Rattle.comparison.proofs.Choosing.{runs_are_one}
use Rattle.comparison.proofs.Exemplary.{runs_exist}
use Rattle.comparison.proofs.Keeping.{runs_keep_the_law}
use Rattle.comparison.proofs.run.runs_are_lawful.Goals as goal

pub returns : goal.returns
returns c = record { law = runs_keep_the_law; no_choice = runs_are_one; runs_exist = runs_exist }

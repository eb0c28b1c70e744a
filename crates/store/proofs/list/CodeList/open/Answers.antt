use Rattle.store.specs.ExactFacts.{exactly_list, set_of}
use Rattle.store.proofs.list.CodeList.open.Goals as goal

pub returns-in_err-self-clause-exact : goal.returns-in_err-self-clause-exact
returns-in_err-self-clause-exact c = exactly_list _

pub returns-in_err-self-clause-holds_its_codes : goal.returns-in_err-self-clause-holds_its_codes
returns-in_err-self-clause-holds_its_codes c = set_of _ _ (exactly_list _)

pub returns-clause-exact : goal.returns-clause-exact
returns-clause-exact c = exactly_list _

pub returns-clause-holds_its_codes : goal.returns-clause-holds_its_codes
returns-clause-holds_its_codes c = set_of _ _ (exactly_list _)

use Rattle.std.proofs.Common.{false, refl}
use Rattle.std.proofs.lemmas.Bool.{and_right, cond-false}
use Rattle.store.specs.declared.store.Answer.TheVariants.{Empty, Occupied}
use Rattle.store.specs.Exact.{on_board, occupied}
use Rattle.store.proofs.list.CodeList.empty.Goals as goal

pub returns-clause-every_square_is_empty : goal.returns-clause-every_square_is_empty
unfolding occupied
returns-clause-every_square_is_empty c l n = cond-false _ Occupied Empty (and_right (on_board l n) false refl)

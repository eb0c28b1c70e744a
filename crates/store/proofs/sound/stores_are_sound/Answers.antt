use Rattle.store.proofs.Sounds.{empty_holds_none, counted_holds_a_cell, holder_not_empty, one_square_of_each_level}
use Rattle.store.proofs.sound.stores_are_sound.Goals as goal

pub returns-clause-empty_holds_no_cell : goal.returns-clause-empty_holds_no_cell
returns-clause-empty_holds_no_cell g c = empty_holds_none (g.S.Store.answers c.args._store.now) (g.S.Store.facts c.args._store.now)

pub returns-clause-counted_holds_a_cell : goal.returns-clause-counted_holds_a_cell
returns-clause-counted_holds_a_cell g c = counted_holds_a_cell (g.S.Store.answers c.args._store.now) (g.S.Store.facts c.args._store.now)

pub returns-clause-holder_is_not_empty : goal.returns-clause-holder_is_not_empty
returns-clause-holder_is_not_empty g c = holder_not_empty (g.S.Store.answers c.args._store.now) (g.S.Store.facts c.args._store.now)

pub returns-clause-one_square_of_each_level : goal.returns-clause-one_square_of_each_level
returns-clause-one_square_of_each_level g c = one_square_of_each_level

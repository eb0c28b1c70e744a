use Rattle.board.specs.Findings.{code_of}
use Rattle.store.specs.Stores.{Holds}
use Rattle.store.proofs.Sounds.{empty_holds_none}
use Rattle.store.proofs.sound.holds.Goals as goal

pub returns-clause-no_empty_square_around_it : goal.returns-clause-no_empty_square_around_it
returns-clause-no_empty_square_around_it g c y l n h i z =
    let t = g.S.Store.answers c.args.store.now in
    let held : Holds t (code_of c.args.cell) = cc in
    empty_holds_none t (g.S.Store.facts c.args.store.now) l n (code_of c.args.cell) h z i held

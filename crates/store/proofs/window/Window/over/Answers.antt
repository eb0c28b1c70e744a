use Rattle.store.specs.Rectangles.{Covers, located}
use Rattle.store.specs.RectangleFacts.{placed}
use Rattle.store.specs.WindowFacts.{sees, window_set}
use Rattle.store.proofs.window.Window.over.Goals as goal

pub returns-clause-answers_by_place : goal.returns-clause-answers_by_place
returns-clause-answers_by_place g c =
    let r = c.args.rectangle in
    sees (Covers r) (located r) (placed r) (g.S.Store.answers c.args.store) (g.S.Store.facts c.args.store)

pub returns-clause-holds_cells_inside : goal.returns-clause-holds_cells_inside
returns-clause-holds_cells_inside g c =
    let r = c.args.rectangle in
    window_set (Covers r) (located r) (placed r) (g.S.Store.answers c.args.store) (g.S.Store.facts c.args.store)

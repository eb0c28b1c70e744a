use Rattle.std.proofs.Common.{sym, refl, subst, arith}
use Rattle.std.specs.List.{AllByRecursion}
use Rattle.board.specs.Squares.{OnBoard}
use Rattle.comparison.specs.Waits.{On}
use Rattle.comparison.proofs.Advancing.{added_order, added_board, started}
use Rattle.comparison.proofs.comparison.Comparison.start.Goals as goal

pub invariant_of-self-2-clause-in_order : goal.invariant_of-self-2-clause-in_order
invariant_of-self-2-clause-in_order g c = added_order c.clear.new.self _ c.add.result c.add.new.self c.add.ensures.gains_or_full c.clear.ensures.in_order

pub invariant_of-self-2-clause-on_board : goal.invariant_of-self-2-clause-on_board
invariant_of-self-2-clause-on_board g c = added_board c.clear.new.self _ c.add.result c.add.new.self c.add.ensures.gains_or_full (subst (λ q. OnBoard q.level q.number) (sym c.suspect_of-board.ensures.of_square) (omega arith, omega arith)) (subst (AllByRecursion On) (sym c.clear.ensures.nothing_waits) tt)

pub returns : goal.returns
returns g c = record {
  started =
      let v = c.args.self.now in
      let f = c.figures_of-self.ensures in
      let k = c.suspect_of-board.ensures in
      started g.A.Store.answers g.B.Store.answers g.M.Measure.amount v _ _ c.suspect_of-board.new.self c.clear.new.self c.add.result
      c.args.film c.suspect_of-board.result f.stays k.stays refl f.keyed f.witness k.keyed k.of_square
      c.clear.ensures.nothing_waits c.clear.ensures.same_room c.add.ensures.gains_or_full c.add.ensures.same_room c.requires.one_place refl refl refl;
}

use Rattle.std.proofs.Common.{◌<◌, sym, subst, arith}
use Rattle.std.proofs.lemmas.Option.{MatchOption-at_none, MatchOption-at_some}
use Rattle.comparison.specs.declared.fault.Fault.TheVariants.{NoFilmCell, NoDrawingCell}
use Rattle.comparison.specs.Calls.Begins.{no_suspects, no_neighbours, no_film, no_drawing}
use Rattle.board.specs.Findings.{code_of}
use Rattle.search.specs.Firsts.{FirstHeld}
use Rattle.search.specs.WaitingLists.{room}
use Rattle.comparison.proofs.Refusing.{refused_by}
use Rattle.comparison.proofs.Calling.{did_nothing, did_begin}
use Rattle.comparison.proofs.comparison.Comparison.begin.Goals as goal

pub returns-then-capacity-eq0 : goal.returns-then-capacity-eq0
returns-then-capacity-eq0 g c = record { by_the_rule = did_nothing g.A.Store.answers g.A.Store.facts g.B.Store.answers g.B.Store.facts g.M.Measure.amount g.M.Measure.laws c.args.self.now _ _ (no_suspects (omega (arith, c.capacity.ensures.all_places, c.if-capacity-eq0.true))) }

pub returns-then-capacity-eq0-2 : goal.returns-then-capacity-eq0-2
returns-then-capacity-eq0-2 g c = record { by_the_rule = did_nothing g.A.Store.answers g.A.Store.facts g.B.Store.answers g.B.Store.facts g.M.Measure.amount g.M.Measure.laws c.args.self.now _ _ (no_neighbours (omega (arith, c.capacity.ensures.all_places, c.if-capacity-eq0.false)) (omega (arith, c.capacity-2.ensures.all_places, c.if-capacity-eq0-2.true))) }

pub returns-in_err-film : goal.returns-in_err-film
returns-in_err-film g c =
    let q = c.in_err-film.ensures in
    rw (refused_by c.first_cell.result NoFilmCell _ _ q.value q.ok_part c.from_residual.ensures.1) (record {
      by_the_rule = did_nothing g.A.Store.answers g.A.Store.facts g.B.Store.answers g.B.Store.facts g.M.Measure.amount g.M.Measure.laws c.args.self.now _ _
          (no_film (omega (arith, c.capacity.ensures.all_places, c.if-capacity-eq0.false)) (omega (arith, c.capacity-2.ensures.all_places, c.if-capacity-eq0-2.false))
          (MatchOption-at_none _ _ q.ok_part c.first_cell.ensures.first_or_none));
    })

pub returns-in_err-ok_or : goal.returns-in_err-ok_or
returns-in_err-ok_or g c =
    let q = c.in_err-ok_or.ensures in
    rw (refused_by c.first_cell-2.result NoDrawingCell _ _ q.value q.ok_part c.from_residual-in_err-ok_or.ensures.1) (record {
      by_the_rule = did_nothing g.A.Store.answers g.A.Store.facts g.B.Store.answers g.B.Store.facts g.M.Measure.amount g.M.Measure.laws c.args.self.now _ _
          (no_drawing (code_of c.in_ok-film.film) (omega (arith, c.capacity.ensures.all_places, c.if-capacity-eq0.false)) (omega (arith, c.capacity-2.ensures.all_places, c.if-capacity-eq0-2.false))
          (MatchOption-at_some _ _ c.in_ok-film.film c.in_ok-film.ensures.ok_part c.first_cell.ensures.first_or_none).held
          (MatchOption-at_none _ _ q.ok_part c.first_cell-2.ensures.first_or_none));
    })

pub returns : goal.returns
returns g c = record {
  by_the_rule =
      let v = c.args.self.now in
      let h : 0 < room v.suspects = omega (arith, c.capacity.ensures.all_places, c.if-capacity-eq0.false) in
      let first = MatchOption-at_some _ _ c.in_ok-film.film c.in_ok-film.ensures.ok_part c.first_cell.ensures.first_or_none in
      let some = MatchOption-at_some _ _ c.in_ok-ok_or.field-0 c.in_ok-ok_or.ensures.ok_part c.first_cell-2.ensures.first_or_none in
      did_begin g.A.Store.answers g.A.Store.facts g.B.Store.answers g.B.Store.facts g.M.Measure.amount g.M.Measure.laws v c.start.new.self c.code.result (code_of c.in_ok-ok_or.field-0) h
      (omega (arith, c.capacity-2.ensures.all_places, c.if-capacity-eq0-2.false))
      (subst (FirstHeld (g.A.Store.answers v.trial.ground.film)) (sym c.code.ensures.value) first)
      some.held c.start.ensures.started;
}

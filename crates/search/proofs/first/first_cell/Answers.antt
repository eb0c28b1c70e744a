use Rattle.std.proofs.Common.{None, refl, subst, arith, rules}
use Rattle.search.specs.declared.first.Scout.{Scout}
use Rattle.search.specs.Firsts.{Searched}
use Rattle.search.proofs.Counting.{counted_under}
use Rattle.search.proofs.Scouting.{cell_found}
use Rattle.search.proofs.first.first_cell.Goals as goal

pub returns : goal.returns
returns g c =
    let h : Scout g.row.A.Denot = record { store = c.args.store; first = None } in
    let A = g.A.Store.answers in
    let t = A c.args.store.now in
    let v = c.walk.new.visitor in
    let met = c.walk.ensures.all_done record { board = (omega arith, omega arith); above = omega arith; in_order = λ q i b. absurd (omega arith) } in
    let m = met.later.from h (refl, λ f. f) in
    record {
      first_or_none = cell_found t v.first c.map.result _ c.map.ensures.cases (λ n cell p. search rules) (m.1 tt)
          (λ d o. subst (λ w. Searched (A w.now) v.first d) m.0 (met.done_below refl d (counted_under t (g.A.Store.facts c.args.store.now) 0 d o)));
    }

use Rattle.std.proofs.Common.{◌≡◌, sym, ◌∙◌, subst, arith}
use Rattle.tree.specs.Held.{cells_of}
use Rattle.tree.proofs.Exact.{listed}
use Rattle.tree.proofs.Tallying.{Summed, shown_on, summed_all, summed_fits, summed_more, summed_none, tally_cell, tally_none}
use Rattle.tree.proofs.reader.Tree.+tally.Goals as goal
use Rattle.tree.proofs.reader.Tree.+tally.Goals.{in-Some, in_default}

pub returns-then-not-shows-clause-cells_in_the_square : goal.returns-then-not-shows-clause-cells_in_the_square
returns-then-not-shows-clause-cells_in_the_square t c =
    let s = c.args.square in
    tally_none (cells_of c.args.self.now) s.level s.number (sym c.shows.ensures ∙ c.if-not-shows.true)

pub returns-then-square-eq0-clause-cells_in_the_square : goal.returns-then-square-eq0-clause-cells_in_the_square
returns-then-square-eq0-clause-cells_in_the_square t c =
    let s = c.args.square in
    let r = c.args.self.now in
    tally_cell (cells_of r) s.level s.number c.if-square-eq0.true (listed r).0 (sym c.shows.ensures ∙ c.if-not-shows.false)

pub loop-k-init : goal.loop-k-init
loop-k-init t c =
    let s = c.args.square in
    let r = c.args.self.now in
    summed_none (cells_of r) s.level s.number (shown_on (cells_of r) s.level s.number (sym c.shows.ensures ∙ c.if-not-shows.false)) (omega arith)

pub overflow_add-sum : goal.overflow_add-sum
overflow_add-sum t c =
    let s = c.args.square in
    let r = c.args.self.now in
    let q = c.in-Some.ensures.quarter_or_none in
    let f = summed_fits (cells_of r) s.level s.number (shown_on (cells_of r) s.level s.number (sym c.shows.ensures ∙ c.if-not-shows.false)) (omega arith)
    c.loop-k.k c.loop-k.sum c.tally-sum.result c.in-Some.quarter.level c.loop-k-test.true c.loop-k.invariant q.1 c.tally-sum.ensures.at_most_all in
    omega (arith, f)

pub loop-k-preserved : goal.loop-k-preserved
loop-k-preserved t c =
    let s = c.args.square in
    let r = c.args.self.now in
    let on = shown_on (cells_of r) s.level s.number (sym c.shows.ensures ∙ c.if-not-shows.false) in
    elim c.match-quarter.branch [
      | in-Some w ↦
          let q = w.in-Some.ensures.quarter_or_none in
          rw w.sum-is
          (summed_more (cells_of r) s.level s.number on (omega arith) c.loop-k.k c.loop-k.sum w.tally-sum.result w.in-Some.quarter.level w.in-Some.quarter.number
          c.loop-k-test.true c.loop-k.invariant q.1 q.2 w.tally-sum.ensures.cells_in_the_square w.tally-sum.ensures.at_most_all)
      | in_default w ↦ absurd (w.in_default.ensures.quarter_or_none (on, omega arith, c.loop-k-test.true))
    ]

pub returns : goal.returns
returns t c =
    let s = c.args.square in
    let r = c.args.self.now in
    let on = shown_on (cells_of r) s.level s.number (sym c.shows.ensures ∙ c.if-not-shows.false) in
    let e : c.loop-k.k ≡ 4 = omega (arith, c.loop-k-test.false, c.loop-k.auto.k-end) in
    let a = summed_all (cells_of r) s.level s.number on (omega arith) c.loop-k.sum (subst (λ k. Summed (cells_of r) s.level s.number k c.loop-k.sum) e c.loop-k.invariant) in
    record { cells_in_the_square = a.0; at_most_all = a.1 }

use Rattle.std.proofs.Common.{◌≡◌, ◌+◌, [], ◌∷◌, sym, subst, add-one, arith}
use Rattle.board.specs.Limits.{parts}
use Rattle.board.specs.Squares.{OnBoard}
use Rattle.board.proofs.Boards.{quarter_on_board}
use Rattle.search.specs.Descents.{quarter}
use Rattle.search.specs.Hunts.{Hunted, near_to, done}
use Rattle.search.specs.Offers.{Offered}
use Rattle.search.specs.Piles.{piled}
use Rattle.search.proofs.Below.{square_is}
use Rattle.search.proofs.Hunting.{same_aim}
use Rattle.search.proofs.Laters.{later_onward}
use Rattle.search.proofs.Offering.{offered_more}
use Rattle.search.proofs.nearest.spread.Goals as goal
use Rattle.search.proofs.nearest.spread.Goals.{in-Some, in_default}

pub offer-requires-clause-board : goal.offer-requires-clause-board
offer-requires-clause-board g c =
    let s = c.args.s in
    let k = c.loop-k.k in
    let h = c.in-Some.ensures.quarter_or_none in
    let e = square_is c.in-Some.quarter s k h.1 h.2 in
    subst (λ t. OnBoard t.level t.number) (sym e) (quarter_on_board s.level s.number k c.requires.board (omega (arith, c.requires.above)) c.loop-k-test.true)

pub loop-k-preserved : goal.loop-k-preserved
loop-k-preserved g c =
    let s = c.args.s in
    let k = c.loop-k.k in
    elim c.match-quarter.branch [
      | in-Some w ↦
          let u = c.args.hunt.now in
          let v = c.loop-k.hunt in
          let h = w.in-Some.ensures.quarter_or_none in
          let new = w.offer.new.hunt in
          let list = w.offer.new.list in
          let near = near_to g.B.Store.answers g.M.Measure.amount in
          let D = done g.B.Store.answers g.M.Measure.amount in
          let m = same_aim g.B.Store.answers g.M.Measure.amount u c.loop-k.invariant.0 in
          let is : w.in-Some.quarter ≡ quarter s k = square_is w.in-Some.quarter s k h.1 h.2 in
          let o = subst (λ a. Offered a.of.level (near a) (D new) (w.in-Some.quarter ∷ []) c.loop-k.list list) m w.offer.ensures.offered in
          let o' = subst (λ t. Offered u.aim.of.level (near u.aim) (D new) (t ∷ []) c.loop-k.list list) is o in
          let all = offered_more u.aim.of.level (near u.aim) (D v) (D new) (quarter s k) (piled (quarter s) k []) c.args.list.now c.loop-k.list list w.offer.ensures.hunted.keeps c.loop-k.invariant.1 o' in
          let all' = subst (λ n. Offered u.aim.of.level (near u.aim) (D new) (piled (quarter s) n []) c.args.list.now list) (sym (add-one k)) all in (
            subst (λ x. Hunted g.B.Store.answers g.M.Measure.amount u x) (sym w.hunt-is) (later_onward c.loop-k.invariant.0 w.offer.ensures.hunted),
            subst (λ l. Offered u.aim.of.level (near u.aim) (D c.match-quarter.hunt) (piled (quarter s) (k + 1) []) c.args.list.now l) (sym w.list-is)
                (subst (λ x. Offered u.aim.of.level (near u.aim) (D x) (piled (quarter s) (k + 1) []) c.args.list.now list) (sym w.hunt-is) all'),
          )
      | in_default w ↦ absurd (w.in_default.ensures.quarter_or_none (c.requires.board, omega (arith, c.requires.above), c.loop-k-test.true))
    ]

pub returns-clause-offered : goal.returns-clause-offered
returns-clause-offered g c =
    let u = c.args.hunt.now in
    let near = near_to g.B.Store.answers g.M.Measure.amount u.aim in
    let D = done g.B.Store.answers g.M.Measure.amount c.loop-k.hunt in
    let all : c.loop-k.k ≡ parts = omega arith in
    subst (λ n. Offered u.aim.of.level near D (piled (quarter c.args.s) n []) c.args.list.now c.loop-k.list) all c.loop-k.invariant.1

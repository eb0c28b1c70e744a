use Rattle.std.proofs.Common.{◌≡◌, ℕ, ◌+◌, ◌-◌, ◌*◌, ◌^◌, ◌≤◌, sym, ap, subst, ap₂, add-mul, arith}
use Rattle.board.specs.declared.square.Square.{Square}
use Rattle.board.proofs.Boards.{quarter_on_board}
use Rattle.comparison.specs.Advances.{Opened}
use Rattle.search.specs.Offers.{weight}
use Rattle.comparison.specs.Calls.{part}
use Rattle.comparison.specs.Comparisons.{weighed}
use Rattle.comparison.proofs.Advancing.{opened_none, opened_more, opened_room}
use Rattle.comparison.proofs.comparison.Comparison.open.Goals as goal
use Rattle.comparison.proofs.comparison.Comparison.open.Goals.{in-Some, in_default}

heavier : (a b k p q x : ℕ) → a ≤ b + k * p → x ≤ a + q → q ≡ p → x ≤ b + (k + 1) * p
heavier a b k p q x h g e = omega (arith, add-mul k 1 p)

as-heavy : (a b k p x : ℕ) → a ≤ b + k * p → x ≡ a → x ≤ b + (k + 1) * p
as-heavy a b k p x h e = omega (arith, add-mul k 1 p)

pub loop-k-init : goal.loop-k-init
loop-k-init g c = (omega arith, opened_none g.A.Store.answers g.B.Store.answers g.M.Measure.amount c.args.self.now (c.args.s.level - 1) c.args.s.number)

pub offer-requires-clause-on_board : goal.offer-requires-clause-on_board
offer-requires-clause-on_board g c =
    let s = c.args.s in
    let e = c.in-Some.ensures.quarter_or_none in
    let lev : c.in-Some.quarter.level ≡ s.level - 1 = omega (arith, e.1) in
    rw (lev, e.2) (quarter_on_board s.level s.number c.loop-k.k c.requires.on_board c.requires.no_cell c.loop-k-test.true)

pub offer-requires-clause-one_place : goal.offer-requires-clause-one_place
offer-requires-clause-one_place g c =
    opened_room g.A.Store.answers g.B.Store.answers g.M.Measure.amount c.args.self.now c.loop-k.self (c.args.s.level - 1) c.args.s.number c.loop-k.k c.loop-k.invariant.1 c.loop-k-test.true c.requires.four_places

pub loop-k-preserved : goal.loop-k-preserved
loop-k-preserved g c = (
  elim c.match-quarter.branch [
    | in-Some w ↦
        let e = w.in-Some.ensures.quarter_or_none in
        let lev : w.in-Some.quarter.level ≡ c.args.s.level - 1 = omega (arith, e.1) in
        heavier (weighed c.loop-k.self) (weighed c.args.self.now) c.loop-k.k (5 ^ (c.args.s.level - 1)) (weight w.in-Some.quarter) (weighed c.match-quarter.self) c.loop-k.invariant.0
        (subst (λ v. weighed v ≤ weighed c.loop-k.self + weight w.in-Some.quarter) (sym w.self-is) w.offer.ensures.lighter) (ap (λ l. 5 ^ l) lev)
    | in_default w ↦
        as-heavy (weighed c.loop-k.self) (weighed c.args.self.now) c.loop-k.k (5 ^ (c.args.s.level - 1)) (weighed c.match-quarter.self) c.loop-k.invariant.0 (ap weighed w.self-is)
  ],
  (
      let s = c.args.s in
      let k = c.loop-k.k in
      let lt = c.loop-k-test.true in
      let u = c.args.self.now in
      let v = c.loop-k.self in
      let o = c.loop-k.invariant.1 in
      elim c.match-quarter.branch [
        | in-Some w ↦
            let q = w.in-Some.quarter in
            let e = w.in-Some.ensures.quarter_or_none in
            let lev : q.level ≡ s.level - 1 = omega (arith, e.1) in
            let at : q ≡ part (s.level - 1) s.number k = ap₂ (λ (l n : ℕ). let z : Square = record { level = l; number = n } in z) lev e.2 in
            subst (Opened g.A.Store.answers g.B.Store.answers g.M.Measure.amount u (s.level - 1) s.number (k + 1)) (sym w.self-is)
            (opened_more g.A.Store.answers g.B.Store.answers g.M.Measure.amount u v w.offer.new.self (s.level - 1) s.number k q at o w.offer.ensures.offered)
        | in_default w ↦ absurd (w.in_default.ensures.quarter_or_none (c.requires.on_board, c.requires.no_cell, lt))
      ]),
)

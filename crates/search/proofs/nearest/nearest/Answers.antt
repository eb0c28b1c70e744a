use Rattle.std.proofs.Common.{◌<◌, [], None, sym, refl, ◌∙◌, subst, arith}
use Rattle.board.proofs.Bounded.{bounds}
use Rattle.board.specs.Distances.{far}
use Rattle.board.specs.Limits.{parts}
use Rattle.search.specs.declared.hunt.Hunt.{Hunt}
use Rattle.search.specs.Descents.{quarter}
use Rattle.search.specs.Hunts.{near_to, done}
use Rattle.search.specs.Keys.{Keyed}
use Rattle.search.specs.Offers.{Offered}
use Rattle.search.specs.Piles.{piled}
use Rattle.search.proofs.Keying.{key_laws}
use Rattle.search.proofs.Hunting.{same_aim}
use Rattle.search.proofs.Laters.{later_same, later_onward}
use Rattle.search.proofs.Searching.{Waits, taken, waits_begins, waits_spread, waits_cleared, lighter_spread, lighter_cleared, keyed, none_above, finished}
use Rattle.search.proofs.nearest.nearest.Goals as goal

pub returns-then-of-gt-TOP : goal.returns-then-of-gt-TOP
returns-then-of-gt-TOP g c =
    let f = g.M.Measure.amount c.args.m.now in
    let t = g.B.Store.answers c.args.b.now in
    let facts = g.B.Store.facts c.args.b.now in
    let l = c.args.of.level in
    let n = c.args.of.number in
    let x = c.outcome.result in
    let k : Keyed f t l n x.0 x.1 = keyed f t l n x.0 x.1 None c.outcome.ensures tt (none_above t (far f l n l) l facts c.if-of-gt-TOP.true) in
    let laws = key_laws t facts f (g.M.Measure.laws c.args.m.now) in
    record {
      keyed = k;
      limited = laws.limited l n x.0 x.1 k;
      no_cell_farther = laws.bounds l n x.0 x.1 k;
      no_quarter_farther = laws.falls l n x.0 x.1 k;
      cell_and_its_nearest = laws.of_cell l n x.0 x.1 k;
      neighbours_empty = c.clear.ensures.nothing_waits;
      same_room = c.clear.ensures.same_room;
    }

pub loop-next-init : goal.loop-next-init
loop-next-init g c =
    let w = c.offer.new.hunt in
    let D = done g.B.Store.answers g.M.Measure.amount w in
    let m = same_aim g.B.Store.answers g.M.Measure.amount record { aim = record { store = c.args.b; measure = c.args.m; of = c.args.of }; best = None } c.offer.ensures.hunted in (
      later_same w,
      subst (λ a. Waits a.of.level (near_to g.B.Store.answers g.M.Measure.amount a) D c.offer.new.list) (sym m)
          (waits_begins c.args.of.level (near_to g.B.Store.answers g.M.Measure.amount (record { store = c.args.b; measure = c.args.m; of = c.args.of })) D c.clear.new.self c.offer.new.list _ refl refl c.clear.ensures.nothing_waits c.clear.ensures.in_order c.offer.ensures.offered),
      refl,
    )

pub loop-next-smaller-then-beyond : goal.loop-next-smaller-then-beyond
loop-next-smaller-then-beyond g c =
    let u = c.offer.new.hunt in
    lighter_cleared u.aim.of.level (near_to g.B.Store.answers g.M.Measure.amount u.aim) c.in-Some.next c.loop-next.neighbours c.take.new.self c.clear-then-beyond.new.self c.in-Some.ensures.loses_first_or_none c.clear-then-beyond.ensures.nothing_waits

pub loop-next-preserved-then-beyond : goal.loop-next-preserved-then-beyond
loop-next-preserved-then-beyond g c =
    let u = c.offer.new.hunt in
    let v = c.loop-next.hunt in
    let B = g.B.Store.answers in
    let M = g.M.Measure.amount in
    let m = same_aim g.B.Store.answers g.M.Measure.amount u c.loop-next.invariant.0 in
    let a = v.aim in
    let f = M a.measure.now in
    let w' = c.clear-then-beyond.new.self in
    let h : Waits a.of.level (near_to B M a) (done B M v) c.loop-next.neighbours = subst (λ x. Waits x.of.level (near_to B M x) (done B M v) c.loop-next.neighbours) (sym m) c.loop-next.invariant.1 in
    let k = waits_cleared f (bounds f (g.M.Measure.laws a.measure.now)) a.of.level a.of.number (B a.store.now a.of.level) v.best c.in-Some.next c.loop-next.neighbours c.take.new.self w' h c.in-Some.ensures.loses_first_or_none c.if-beyond.ensures c.clear-then-beyond.ensures.nothing_waits c.clear-then-beyond.ensures.in_order in (
      c.loop-next.invariant.0,
      subst (λ x. Waits x.of.level (near_to B M x) (done B M v) w') m k,
      c.clear-then-beyond.ensures.same_room ∙ c.take.ensures.same_room ∙ c.loop-next.invariant.2,
    )

pub spread-requires : goal.spread-requires
spread-requires g c =
    let u = c.offer.new.hunt in
    let x = c.in-Some.next in
    let l = u.aim.of.level in
    let near = near_to g.B.Store.answers g.M.Measure.amount u.aim in
    let m = same_aim g.B.Store.answers g.M.Measure.amount u c.loop-next.invariant.0 in
    let t = c.in-Some.ensures.loses_first_or_none in
    let e = taken l near (done g.B.Store.answers g.M.Measure.amount c.loop-next.hunt) x c.loop-next.neighbours c.take.new.self c.loop-next.invariant.1 t in
    record { board = e.board; above = subst (λ a. a.of.level < x.square.level) (sym m) e.above }

pub loop-next-smaller : goal.loop-next-smaller
loop-next-smaller g c =
    let u = c.offer.new.hunt in
    let x = c.in-Some.next in
    let near = near_to g.B.Store.answers g.M.Measure.amount in
    let D = done g.B.Store.answers g.M.Measure.amount c.spread.new.hunt in
    let l = u.aim.of.level in
    let m = same_aim g.B.Store.answers g.M.Measure.amount u c.loop-next.invariant.0 in
    let t = c.in-Some.ensures.loses_first_or_none in
    let o = subst (λ a. Offered a.of.level (near a) D (piled (quarter x.square) parts []) c.take.new.self c.spread.new.list) m c.spread.ensures.offered in
    let e = taken l (near u.aim) (done g.B.Store.answers g.M.Measure.amount c.loop-next.hunt) x c.loop-next.neighbours c.take.new.self c.loop-next.invariant.1 t in
    lighter_spread l (near u.aim) D x c.loop-next.neighbours c.take.new.self c.spread.new.list t (omega (arith, e.above)) o

pub loop-next-preserved : goal.loop-next-preserved
loop-next-preserved g c =
    let u = c.offer.new.hunt in
    let v = c.loop-next.hunt in
    let x = c.in-Some.next in
    let near = near_to g.B.Store.answers g.M.Measure.amount in
    let D = done g.B.Store.answers g.M.Measure.amount in
    let w = c.spread.new.hunt in
    let m = same_aim g.B.Store.answers g.M.Measure.amount u c.loop-next.invariant.0 in
    let t = c.in-Some.ensures.loses_first_or_none in
    let o = subst (λ a. Offered a.of.level (near a) (D w) (piled (quarter x.square) parts []) c.take.new.self c.spread.new.list) m c.spread.ensures.offered in (
      later_onward c.loop-next.invariant.0 c.spread.ensures.hunted,
      waits_spread u.aim.of.level (near u.aim) (D v) (D w) x c.loop-next.neighbours c.take.new.self c.spread.new.list c.loop-next.invariant.1 t c.spread.ensures.hunted.keeps o,
      c.spread.ensures.offered.space ∙ c.take.ensures.same_room ∙ c.loop-next.invariant.2,
    )

pub returns : goal.returns
returns g c =
    let f = g.M.Measure.amount c.args.m.now in
    let t = g.B.Store.answers c.args.b.now in
    let facts = g.B.Store.facts c.args.b.now in
    let l = c.args.of.level in
    let n = c.args.of.number in
    let v = c.loop-next.hunt in
    let h : Hunt g.row.B.Denot g.row.M.Denot = record { aim = record { store = c.args.b; measure = c.args.m; of = c.args.of }; best = None } in
    let m = (later_onward c.offer.ensures.hunted c.loop-next.invariant.0).from h (refl, λ f. f) in
    let none = c.in_default.ensures.loses_first_or_none in
    let u = c.offer.new.hunt in
    let d = finished g.B.Store.answers g.M.Measure.amount h.aim u v (same_aim g.B.Store.answers g.M.Measure.amount h c.offer.ensures.hunted) m.0 facts c.loop-next.neighbours none.0 c.loop-next.invariant.1 in
    let x = c.outcome-2.result in
    let k : Keyed f t l n x.0 x.1 = keyed f t l n x.0 x.1 v.best c.outcome-2.ensures (m.1 tt) d in
    let laws = key_laws t facts f (g.M.Measure.laws c.args.m.now) in
    record {
      keyed = k;
      limited = laws.limited l n x.0 x.1 k;
      no_cell_farther = laws.bounds l n x.0 x.1 k;
      no_quarter_farther = laws.falls l n x.0 x.1 k;
      cell_and_its_nearest = laws.of_cell l n x.0 x.1 k;
      neighbours_empty = none.1;
      same_room = c.take.ensures.same_room ∙ c.loop-next.invariant.2 ∙ c.offer.ensures.offered.space ∙ c.clear.ensures.same_room;
    }

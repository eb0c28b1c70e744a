use Rattle.std.proofs.Common.{[], ◌∷◌, sym, refl, ap, subst, arith}
use Rattle.std.proofs.lemmas.Bool.{false≢true}
use Rattle.board.specs.Squares.{OnBoard}
use Rattle.search.specs.Offers.{weight}
use Rattle.comparison.specs.Advances.{Offer}
use Rattle.comparison.specs.Comparisons.{world}
use Rattle.comparison.specs.Advances.Offer.{put, pass_empty, pass}
use Rattle.comparison.specs.Calls.{Improves}
use Rattle.comparison.proofs.Advancing.{added_board, added_here, added_order, added_weight, queues_none, queues_one}
use Rattle.comparison.proofs.Diving.{stays_same}
use Rattle.comparison.proofs.comparison.Comparison.offer.Goals as goal

pub returns-then-film_empty_at-clause-offered : goal.returns-then-film_empty_at-clause-offered
returns-then-film_empty_at-clause-offered g c =
    let v = c.args.self.now in
    record {
      es = [];
      queues = queues_none g.A.Store.answers g.B.Store.answers g.M.Measure.amount v v (stays_same g.A.Store.answers g.B.Store.answers g.M.Measure.amount v.trial.ground) refl refl;
      figures = refl;
      offer = pass_empty (c.if-film_empty_at.ensures.decides.0 refl);
    }

pub returns-then-not-improved_by-clause-offered : goal.returns-then-not-improved_by-clause-offered
returns-then-not-improved_by-clause-offered g c =
    let v = c.args.self.now in
    let e = c.suspect_of-suspect.result in
    let k = c.suspect_of-suspect.ensures in
    record {
      es = [];
      queues = queues_none g.A.Store.answers g.B.Store.answers g.M.Measure.amount v _ k.stays refl refl;
      figures = refl;
      offer = subst (λ q. Offer (world g.A.Store.answers g.B.Store.answers g.M.Measure.amount v) v.trial.figures q []) k.of_square
          (pass e.key e.partner k.keyed
          (λ i. false≢true (c.if-not-improved_by.ensures.decides.1 (subst (Improves v.trial.figures e.key) (sym c.start.ensures.value) i))));
    }

pub invariant_of-self-2-clause-in_order : goal.invariant_of-self-2-clause-in_order
invariant_of-self-2-clause-in_order g c = added_order c.args.self.now.suspects _ c.add.result c.add.new.self c.add.ensures.gains_or_full c.args.self.now.in_order

pub invariant_of-self-2-clause-on_board : goal.invariant_of-self-2-clause-on_board
invariant_of-self-2-clause-on_board g c = added_board c.args.self.now.suspects _ c.add.result c.add.new.self c.add.ensures.gains_or_full (subst (λ q. OnBoard q.level q.number) (sym c.suspect_of-suspect.ensures.of_square) c.requires.on_board) c.args.self.now.on_board

pub returns : goal.returns
returns g c =
    let v = c.args.self.now in
    let e = c.suspect_of-suspect.result in
    let k = c.suspect_of-suspect.ensures in
    let a = added_here v.suspects e c.add.result c.add.new.self c.requires.one_place c.add.ensures.gains_or_full in
    record {
      lighter = omega (arith, added_weight v.suspects e c.add.new.self a, ap weight k.of_square);
      offered = record {
        es = e ∷ [];
        queues = queues_one g.A.Store.answers g.B.Store.answers g.M.Measure.amount v _ e k.stays c.add.ensures.same_room a refl;
        figures = refl;
        offer = put e (λ z. false≢true (c.if-film_empty_at.ensures.decides.1 z)) k.of_square k.keyed
            (subst (Improves v.trial.figures e.key) c.start.ensures.value (c.if-not-improved_by.ensures.decides.0 refl));
      };
    }

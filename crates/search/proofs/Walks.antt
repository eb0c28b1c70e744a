-- A visitor on its walk, turn by turn.
use Rattle.std.proofs.Common.{◌≡◌, ℕ, ◌<◌, ◌≤◌, true, false, List, ◌∷◌, sym, refl, ◌∙◌, subst}
use Rattle.board.specs.declared.square.Square.{Square}
use Rattle.search.specs.Descents.{Under, Before, ends}
use Rattle.search.specs.Visits.{Reached, Later, Met}
use Rattle.search.proofs.Fronts.{Stacked, Covers, Wanted, quarters, stacked_opens, in_order, covers_closes, covers_opens}
use Rattle.search.proofs.Laters.{later_onward}

module _ {V : Type 0} (floor since : V → ℕ) (done : V → ℕ → Type 0) (comes : V → V → Type 0) where
  -- u began to walk over s, is v now, and the squares ss are on the stack
  pub record Walking (u v : V) (s : Square) (ss : List Square) : Type 0 where
    pub same : floor v ≡ floor u
    pub start : floor u ≤ s.level
    pub stacked : Stacked (floor u) (ends s) ss
    pub later : Reached floor since done u s → Later floor since done comes u v
    pub covers : Reached floor since done u s → Covers (λ r. r) (floor u) (Wanted (floor u) (since u) s) (done v) ss

  module _ (u v : V) (s t : Square) (ss : List Square) (k : Walking u v s (t ∷ ss)) where
    -- the walk comes to t
    pub walking_comes : Reached floor since done u s → Reached floor since done v t
    walking_comes r = record {
      board = k.stacked.0.board;
      above = subst (λ e. e ≤ t.level) (sym k.same) k.stacked.0.above;
      in_order = λ q i b. in_order (floor u) (since u) s t ss (done v) k.start k.stacked (k.covers r) q
          (subst (λ x. x ≤ q) (k.later r).begun i) (subst (λ e. Before e q t) k.same b);
    }

    -- and goes on into its quarters
    pub walking_opens : (w : V) → floor w ≡ floor v → floor v < t.level → (Reached floor since done v t → Met floor since done comes v t true w) → Walking u w s (quarters t ss)
    walking_opens w e h m =
        let up : floor u < t.level = subst (λ x. x < t.level) k.same h in
        record {
          same = e ∙ k.same;
          start = k.start;
          stacked = stacked_opens (floor u) (ends s) t ss up k.stacked;
          later = λ r. later_onward (k.later r) (m (walking_comes r)).later;
          covers = λ r. covers_opens (floor u) (Wanted (floor u) (since u) s) (done v) (done w) t ss (m (walking_comes r)).later.keeps (k.covers r) up;
        }

    -- or leaves it
    pub walking_closes : (w : V) → floor w ≡ floor v → (Reached floor since done v t → Met floor since done comes v t false w) → Walking u w s ss
    walking_closes w e m = record {
      same = e ∙ k.same;
      start = k.start;
      stacked = k.stacked.2;
      later = λ r. later_onward (k.later r) (m (walking_comes r)).later;
      covers = λ r. covers_closes (floor u) (Wanted (floor u) (since u) s) (done v) (done w) t ss (m (walking_comes r)).later.keeps (k.covers r)
          (λ q i. (m (walking_comes r)).done_below refl q (subst (λ x. Under x t.level t.number q) (sym k.same) i));
    }

-- What waits after an offer.
use Rattle.std.proofs.Common.{◌≡◌, ℕ, true, List, [], ◌∷◌, sum_by, sym, ap, ◌∙◌, subst, arith}
use Rattle.std.specs.List.{AllByRecursion}
use Rattle.std.proofs.ByRecursion.{All-weaker, all_shuffled}
use Rattle.std.proofs.lemmas.List.Sorted.{IsPermutation-sym, sum_by-IsPermutation}
use Rattle.std.proofs.lemmas.List.Sums.{sum_by-cons}
use Rattle.board.specs.declared.square.Square.{Square}
use Rattle.search.specs.declared.waiting.WaitingList.{WaitingList}
use Rattle.search.specs.declared.neighbour.Neighbour.{Neighbour}
use Rattle.search.specs.WaitingLists.{waiting, room, Added, InHeap}
use Rattle.search.specs.Descents.{Under, Outside}
use Rattle.search.specs.Neighbours.{ordered}
use Rattle.search.specs.Offers.{weight, Entry, Offered}

module _ (l : ℕ) (near : ℕ → ℕ → ℕ) where
  -- the list stays, since all that lies in s is done
  pub offered_done : (D : ℕ → Type 0) (s : Square) (v w : WaitingList Neighbour) → room w ≡ room v → waiting w ≡ waiting v
      → ((q : ℕ) → Under l s.level s.number q → D q) → Offered l near D (s ∷ []) v w
  offered_done D s v w r e h = record {
    space = r;
    ready = subst (InHeap ordered) (sym e);
    entries = subst (AllByRecursion (Entry l near)) (sym e);
    covers = λ q out. (subst (AllByRecursion (λ x. Outside l q x.square)) e out, (h q, tt));
    lighter = omega (arith, ap (sum_by (λ x. weight x.square)) e);
  }

  -- the square waits
  pub offered_waits : (D : ℕ → Type 0) (x : Neighbour) (v w : WaitingList Neighbour) → room w ≡ room v → Added ordered v x true w → Entry l near x
      → Offered l near D (x.square ∷ []) v w
  offered_waits D x v w r a e = record {
    space = r;
    ready = a.2;
    entries = λ h. all_shuffled (Entry l near) (x ∷ waiting v) (waiting w) a.1 (e, h);
    covers = λ q out. let o = all_shuffled (λ y. Outside l q y.square) (waiting w) (x ∷ waiting v) (IsPermutation-sym _ _ a.1) out in (o.1, (λ u. absurd (o.0 u), tt));
    lighter = omega (arith, sum_by-IsPermutation (λ y. weight y.square) (x ∷ waiting v) (waiting w) a.1, sum_by-cons (λ y. weight y.square) x (waiting v));
  }

  -- one more was
  pub offered_more : (D D' : ℕ → Type 0) (s : Square) (ss : List Square) (u v w : WaitingList Neighbour) → ((q : ℕ) → D q → D' q)
      → Offered l near D ss u v → Offered l near D' (s ∷ []) v w → Offered l near D' (s ∷ ss) u w
  offered_more D D' s ss u v w keep a b = record {
    space = b.space ∙ a.space;
    ready = λ k. b.ready (a.ready k);
    entries = λ h. b.entries (a.entries h);
    covers = λ q out.
        let y = b.covers q out in
        let x = a.covers q y.0 in
        (x.0, (y.1.0, All-weaker (λ t. Under l t.level t.number q → D q) (λ t. Under l t.level t.number q → D' q) (λ t h i. keep q (h i)) ss x.1));
    lighter = omega (arith, a.lighter, b.lighter, sum_by-cons weight s ss);
  }

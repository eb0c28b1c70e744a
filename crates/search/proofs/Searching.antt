-- The list of neighbours, turn by turn.
use Rattle.std.proofs.Common.{◌≡◌, ℕ, ◌+◌, ◌-◌, ◌/◌, ◌%◌, ◌^◌, ◌<◌, ◌≤◌, false, ◌⊎◌, List, [], ◌∷◌, Some, None, sum_by, Option, MatchOption, sym, refl, ap, subst, inl, inr, ⊎_elim, arith}
use Rattle.std.specs.List.{AllByRecursion}
use Rattle.std.specs.Ordering.{is_lt}
use Rattle.std.proofs.lemmas.Bool.{cases_lt, cases_eq, both_ways}
use Rattle.std.proofs.lemmas.List.Sorted.{IsPermutation-sym, sum_by-IsPermutation}
use Rattle.std.proofs.ByRecursion.{all_shuffled}
use Rattle.std.proofs.lemmas.List.Sums.{sum_by-cons}
use Rattle.board.specs.Distances.{near, far, Bounds}
use Rattle.board.specs.Limits.{edge, parts, top}
use Rattle.board.specs.declared.square.Square.{Square}
use Rattle.store.specs.declared.store.Answer.{Answer}
use Rattle.store.specs.Stores.{StoreFacts}
use Rattle.search.specs.declared.waiting.WaitingList.{WaitingList}
use Rattle.search.specs.declared.neighbour.Neighbour.{Neighbour}
use Rattle.search.specs.declared.hunt.Partner.{Partner}
use Rattle.search.specs.declared.hunt.Aim.{Aim}
use Rattle.search.specs.declared.hunt.Hunt.{Hunt}
use Rattle.search.specs.WaitingLists.{waiting, Ready, Taken, FirstIn}
use Rattle.search.specs.Descents.{Under, Outside, quarter}
use Rattle.search.specs.Keys.{Keyed}
use Rattle.search.specs.Neighbours.{before, ordered}
use Rattle.search.specs.Hunts.{Beyond, Done, Found, table, near_to, far_from, done}
use Rattle.search.specs.Offers.{weight, Entry, Offered}
use Rattle.search.specs.Piles.{piled}
use Rattle.search.proofs.Below.{under_quarter}
use Rattle.search.proofs.Counting.{counted_under, counted_on_board}
use Rattle.search.proofs.Fronts.{Covers, covers_next, weight_pos, fifth}
use Rattle.search.proofs.Hunting.{beyond_under, beyond_more}
use Rattle.search.proofs.Piled.{piled_each, piled_sum}
use Rattle.search.proofs.Ranked.{neighbours_are_ordered}

-- what waits: in order, with the right amounts, and nothing on the board is left out
pub record Waits (l : ℕ) (near : ℕ → ℕ → ℕ) (D : ℕ → Type 0) (v : WaitingList Neighbour) : Type 0 where
  pub ready : Ready ordered v
  pub entries : AllByRecursion (Entry l near) (waiting v)
  pub covers : Covers (λ x. x.square) l (Under l top 0) D (waiting v)

-- what is in order behind x is no nearer
no_nearer : (x y : Neighbour) → is_lt (before y x) ≡ false → x.amount ≤ y.amount
no_nearer x y h = go (cases_lt y.amount x.amount)
  where
    go : (y.amount < x.amount) ⊎ (x.amount ≤ y.amount) → x.amount ≤ y.amount
    go (inl lt) = absurd (both_ways (is_lt (before y x)) h (ap is_lt (neighbours_are_ordered.by_amount y x lt)))
    go (inr le) = le

-- what lies in none of the squares is done, and what lies in one is too
all_done : {X : Type 0} (at : X → Square) (l q : ℕ) (D : Type 0) (xs : List X) → AllByRecursion (λ x. Under l (at x).level (at x).number q → D) xs → (AllByRecursion (λ x. Outside l q (at x)) xs → D) → D
all_done at l q D [] h k = k tt
all_done at l q D (x ∷ xs) h k = ⊎_elim h.0 (λ n. all_done at l q D xs h.1 (λ o. k (n, o))) (cases_eq (q / parts ^ ((at x).level - l)) (at x).number)

module _ (l : ℕ) (near : ℕ → ℕ → ℕ) where
  pub waits_begins : (D : ℕ → Type 0) (v w : WaitingList Neighbour) (s : Square) → s.level ≡ top → s.number ≡ 0 → waiting v ≡ [] → Ready ordered v → Offered l near D (s ∷ []) v w → Waits l near D w
  waits_begins D v w s i j e r o = record {
    ready = o.ready r;
    entries = o.entries (subst (AllByRecursion (Entry l near)) (sym e) tt);
    covers = λ q u out. (o.covers q out).1.0 (subst (λ m. Under l m s.number q) (sym i) (subst (λ n. Under l top n q) (sym j) u));
  }

  -- what is taken was an entry
  pub taken : (D : ℕ → Type 0) (x : Neighbour) (v w : WaitingList Neighbour) → Waits l near D v → Taken ordered v (Some x) w → Entry l near x
  taken D x v w h t = (all_shuffled (Entry l near) (waiting v) (x ∷ waiting w) t.0 h.entries).0

  -- the quarters of the first were offered
  pub waits_spread : (D D' : ℕ → Type 0) (x : Neighbour) (v w w' : WaitingList Neighbour) → Waits l near D v → Taken ordered v (Some x) w → ((q : ℕ) → D q → D' q)
      → Offered l near D' (piled (quarter x.square) parts []) w w' → Waits l near D' w'
  waits_spread D D' x v w w' h t keep o =
      let es = all_shuffled (Entry l near) (waiting v) (x ∷ waiting w) t.0 h.entries in
      let s = x.square in
      let cov : Covers (λ y. y.square) l (Under l top 0) D (x ∷ waiting w) = λ q p out. h.covers q p (all_shuffled (λ y. Outside l q y.square) (x ∷ waiting w) (waiting v) (IsPermutation-sym _ _ t.0) out) in
      record {
        ready = o.ready (t.1 h.ready).0;
        entries = o.entries es.1;
        covers = covers_next (λ y. y.square) l (Under l top 0) D D' x (waiting w) (waiting w') keep (λ q out. (o.covers q out).0)
            (λ q p u out.
            let k = (q / parts ^ (s.level - 1 - l)) % parts in
            piled_each (quarter s) (λ r. Under l r.level r.number q → D' q) parts [] (o.covers q out).1 k (omega arith) (under_quarter l s.level s.number q es.0.above u))
            cov;
      }

  pub lighter_spread : (D : ℕ → Type 0) (x : Neighbour) (v w w' : WaitingList Neighbour) → Taken ordered v (Some x) w → 0 < x.square.level → Offered l near D (piled (quarter x.square) parts []) w w'
      → sum_by (λ y. weight y.square) (waiting w') < sum_by (λ y. weight y.square) (waiting v)
  lighter_spread D x v w w' t h o =
      let f : Neighbour → ℕ = λ y. weight y.square in
      let s = x.square in
      omega (arith, o.lighter, sum_by-IsPermutation f (waiting v) (x ∷ waiting w) t.0, sum_by-cons f x (waiting w), piled_sum (quarter s) weight ((parts + 1) ^ (s.level - 1)) parts [] (λ j. refl), weight_pos (quarter s 0), fifth s h)

  pub lighter_cleared : (x : Neighbour) (v w w' : WaitingList Neighbour) → Taken ordered v (Some x) w → waiting w' ≡ []
      → sum_by (λ y. weight y.square) (waiting w') < sum_by (λ y. weight y.square) (waiting v)
  lighter_cleared x v w w' t e =
      let f : Neighbour → ℕ = λ y. weight y.square in
      omega (arith, ap (sum_by f) e, sum_by-IsPermutation f (waiting v) (x ∷ waiting w) t.0, sum_by-cons f x (waiting w), weight_pos x.square)

-- the nearest that waits is beyond what was found, and so are all
module _ (f : ℕ → ℕ → ℕ) (b : Bounds f) (l r : ℕ) (t : ℕ → Answer) where
  pub waits_cleared : (best : Option Partner) (x : Neighbour) (v w w' : WaitingList Neighbour)
      → Waits l (near f l r) (Done t (far f l r l) best) v → Taken ordered v (Some x) w → Beyond best x.amount → waiting w' ≡ [] → Ready ordered w' → Waits l (near f l r) (Done t (far f l r l) best) w'
  waits_cleared best x v w w' h k z e ready' =
      let first : FirstIn ordered x (waiting v) = (k.1 h.ready).1 in
      record {
        ready = ready';
        entries = subst (AllByRecursion (Entry l (near f l r))) (sym e) tt;
        covers = λ q p out. all_done (λ y. y.square) l q (Done t (far f l r l) best q) (waiting v) (each q (waiting v) h.entries first) (h.covers q p);
      }
    where
      each : (q : ℕ) (ys : List Neighbour) → AllByRecursion (Entry l (near f l r)) ys → AllByRecursion (λ y. is_lt (before y x) ≡ false) ys → AllByRecursion (λ y. Under l y.square.level y.square.number q → Done t (far f l r l) best q) ys
      each q [] es fs = tt
      each q (y ∷ ys) es fs = (
        λ u o. beyond_under f b l r best y.square.level y.square.number q (omega (arith, es.0.above)) (subst (Beyond best) es.0.amount (beyond_more best x.amount y.amount (no_nearer x y fs.0) z)) u,
        each q ys es.1 fs.1,
      )

-- what was found in the end, and what is answered of it
module _ (f : ℕ → ℕ → ℕ) (t : ℕ → ℕ → Answer) (l n k p : ℕ) where
  pub keyed : (best : Option Partner) → MatchOption best ((k ≡ f edge edge) × (p ≡ 0)) (λ b. (k ≡ b.key) × (p ≡ b.number))
      → Found (t l) (far f l n l) best → ((q : ℕ) → Done (t l) (far f l n l) best q) → Keyed f t l n k p
  keyed None m found h = inr record { none = h; amount = m.0; zero = m.1 }
  keyed (Some b) m found h =
      let best : Keyed f t l n b.key b.number = inl record { counted = found.0; amount = found.1; least = λ q o. (h q o).0; earliest = λ q o i. (h q o).1 (sym i) } in
      subst (λ x. Keyed f t l n x p) (sym m.0) (subst (Keyed f t l n b.key) (sym m.1) best)

-- above the board's level no square counts
pub none_above : (t : ℕ → ℕ → Answer) (far : ℕ → ℕ) (l : ℕ) → StoreFacts t → top < l → (q : ℕ) → Done (t l) far None q
none_above t far l facts h q o = omega (arith, (counted_on_board t facts l q o).0)

-- when nothing waits any more, all is done, in the words of the aim a that the hunt began with
pub finished : {B M : Type 0} (answers : B → ℕ → ℕ → Answer) (amount : M → ℕ → ℕ → ℕ) (a : Aim B M) (u v : Hunt B M) → u.aim ≡ a → v.aim ≡ a → StoreFacts (answers a.store.now)
    → (w : WaitingList Neighbour) → waiting w ≡ [] → Waits u.aim.of.level (near_to answers amount u.aim) (done answers amount v) w → (q : ℕ) → Done (table answers amount a) (far_from answers amount a) v.best q
finished answers amount a u v i j facts w e h q o =
    let l = a.of.level in
    let c : Covers (λ x. x.square) l (Under l top 0) (done answers amount v) (waiting w) = subst (λ x. Covers (λ y. y.square) x.of.level (Under x.of.level top 0) (done answers amount v) (waiting w)) i h.covers in
    let d : Done (table answers amount v.aim) (far_from answers amount v.aim) v.best q = c q (counted_under (answers a.store.now) facts l q o) (subst (AllByRecursion (λ x. Outside l q x.square)) (sym e) tt) in
    subst (λ x. Done (table answers amount x) (far_from answers amount x) v.best q) j d o

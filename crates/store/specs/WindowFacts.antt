-- What a window owes: proved once, for any set of cells and any store below.
use Rattle.std.specs.Prelude.{◌≡◌, ℕ, ◌+◌, ◌*◌, ◌⊎◌, ◌≢◌, refl}
use Rattle.std.proofs.Common.{inl, inr, ⊎_elim, sym, ap, subst, ◌∙◌, div-one, arith}
use Rattle.std.proofs.lemmas.Bool.{false≢true}
use Rattle.board.specs.Limits.{parts}
use Rattle.board.specs.Squares.{OnBoard}
use Rattle.store.specs.declared.rectangle.Place.{Place}
use Rattle.store.specs.declared.rectangle.Place.TheVariants.{Apart, Across, Within}
use Rattle.store.specs.declared.store.Answer.{Answer}
use Rattle.store.specs.declared.store.Answer.TheVariants.{Empty, Occupied, Unknown}
use Rattle.store.specs.Stores.{Counts, Holds, StoreFacts}
use Rattle.store.specs.Exact.{Shares, HoldsSet}
use Rattle.store.specs.ExactFacts.{outward, cell_inside, quarter_on, square_on_board}
use Rattle.store.specs.Places.{Placed}
use Rattle.store.specs.PlaceFacts.{apart_from, across_from, within_from}
use Rattle.store.specs.declared.rectangle.Rectangle.{Rectangle}
use Rattle.store.specs.Rectangles.{Covers, located}
use Rattle.store.specs.RectangleFacts.{placed as located_so}
use Rattle.store.specs.Windows.{blurred, seen_at, windowed, Sees}

-- ---- answers

seen_empty : (q : Place) (a : Answer) → a ≡ Empty → seen_at q a ≡ Empty
seen_empty Apart a e = refl
seen_empty Across a e = ap blurred e
seen_empty Within a e = e

blurred_empty : (a : Answer) → blurred a ≡ Empty → a ≡ Empty
blurred_empty Empty e = refl
blurred_empty Occupied e = cc
blurred_empty Unknown e = cc

empty_seen : (q : Place) (a : Answer) → seen_at q a ≡ Empty → (q ≡ Apart) ⊎ (a ≡ Empty)
empty_seen Apart a e = inl refl
empty_seen Across a e = inr (blurred_empty a e)
empty_seen Within a e = inr e

blurred-counts : (a : Answer) → Counts (blurred a) → ⊥
blurred-counts Empty y = false≢true y
blurred-counts Occupied y = false≢true y
blurred-counts Unknown y = false≢true y

seen-counts : (q : Place) (a : Answer) → Counts (seen_at q a) → (q ≡ Within) × Counts a
seen-counts Apart a y = absurd (false≢true y)
seen-counts Across a y = absurd (blurred-counts a y)
seen-counts Within a y = (refl, y)

blurred_unknown : (a : Answer) → (a ≢ Empty) → blurred a ≡ Unknown
blurred_unknown Empty f = absurd (f refl)
blurred_unknown Occupied f = refl
blurred_unknown Unknown f = refl

-- ---- tables

module _ (P : ℕ → Type 0) (p : ℕ → ℕ → Place) (placed : (l n : ℕ) → Placed P l n (p l n)) (t : ℕ → ℕ → Answer) (f : StoreFacts t) where
  abbrev seen : ℕ → ℕ → Answer
  seen l n = seen_at (p l n) (t l n)

  -- the edge goes through no cell
  cell_seen : (n : ℕ) (q : Place) → Placed P 0 n q → seen_at q (t 0 n) ≢ Unknown
  cell_seen n Apart h e = cc
  cell_seen n Across h e =
      h.2.1 (subst P (cell_inside n h.1.0 h.1.2 ∙ sym (cell_inside n h.2.0 h.2.2)) h.1.1)
  cell_seen n Within h e = f.cell_known n e

  pub sees : Sees P t seen
  sees = record {
    inside = λ l n b a. ap (λ q. seen_at q (t l n)) (within_from P l n (p l n) (placed l n) b a);
    outside = λ l n g. ap (λ q. seen_at q (t l n)) (apart_from P l n (p l n) (placed l n) (λ z. g z.1));
    across_empty = λ l n e. seen_empty (p l n) (t l n) e;
    across_unknown = λ l n b s o g. ap (λ q. seen_at q (t l n)) (across_from P l n (p l n) (placed l n) b s o) ∙ blurred_unknown (t l n) g;
  }

  pub window_facts : StoreFacts seen
  window_facts = record {
    cell_known = λ n e. cell_seen n (p 0 n) (placed 0 n) e;
    empty_quarters = λ l n k h j z.
        let m = parts * n + k in
        ⊎_elim
        (λ a.
        let g : OnBoard (l + 1) n × Shares P (l + 1) n → ⊥ = subst (Placed P (l + 1) n) a (placed (l + 1) n) in
        ap (λ q. seen_at q (t l m)) (apart_from P l m (p l m) (placed l m) (λ s. g (square_on_board l n k h j s.0, (s.1.0, s.1.1, outward l n k s.1.0 j s.1.2)))))
        (λ e. seen_empty (p l m) (t l m) (f.empty_quarters l n k h j e))
        (empty_seen (p (l + 1) n) (t (l + 1) n) z);
    counted_quarter = λ l n h y.
        let s = seen-counts (p (l + 1) n) (t (l + 1) n) y in
        let a = subst (Placed P (l + 1) n) s.0 (placed (l + 1) n) in
        let q = f.counted_quarter l n h s.1 in
        let k = q.0 in
        let m = parts * n + k in
        let e : p l m ≡ Within = within_from P l m (p l m) (placed l m) (quarter_on l n k a.0 q.1) (λ c i. a.1 c (outward l n k c q.1 i)) in
        (k, q.1, subst (λ x. Counts (seen_at x (t l m))) (sym e) q.2);
    off_board = λ l n g. seen_empty (p l n) (t l n) (f.off_board l n g);
  }

  -- the cells held are those of the store below that are in the set
  pub window_set : HoldsSet (λ c. Holds t c × P c) seen
  window_set = record {
    all = λ c h y.
        let e : p 0 c ≡ Within = within_from P 0 c (p 0 c) (placed 0 c) (omega arith, h) (λ d i. subst P (sym (cell_inside c d i)) y.1) in
        subst (λ x. Counts (seen_at x (t 0 c))) (sym e) y.0;
    only = λ c y.
        let s = seen-counts (p 0 c) (t 0 c) y in
        let a = subst (Placed P 0 c) s.0 (placed 0 c) in
        (s.1, a.1 c (div-one c));
  }

-- ---- the window of a rectangle

pub windowed_facts : (r : Rectangle) (t : ℕ → ℕ → Answer) → StoreFacts t → StoreFacts (windowed r t)
windowed_facts r t f = window_facts (Covers r) (located r) (located_so r) t f

-- What keys say of distances.
use Rattle.std.proofs.Common.{◌≡◌, ℕ, ◌+◌, ◌*◌, ◌/◌, ◌^◌, ◌<◌, ◌≤◌, sym, ◌∙◌, subst, inl, inr, le_trans, arith}
use Rattle.board.specs.Limits.{edge, codes, most, parts}
use Rattle.board.specs.Measures.{MeasureLaws}
use Rattle.board.specs.Distances.{distance, far, Bounds}
use Rattle.board.specs.Strays.{Nearest}
use Rattle.board.proofs.Bounded.{bounds}
use Rattle.store.specs.declared.store.Answer.{Answer}
use Rattle.store.specs.Stores.{Counts, Holds, StoreFacts}
use Rattle.store.proofs.Sounds.{counted_holds_a_cell, held_on_board}
use Rattle.search.specs.Keys.{Keyed, KeyBounds, KeyFalls, KeyOfCell, KeyLaws}
use Rattle.search.proofs.Counting.{counted_on_board}

module _ (t : ℕ → ℕ → Answer) (facts : StoreFacts t) where
  module _ (f : ℕ → ℕ → ℕ) (laws : MeasureLaws f) where
    b : Bounds f
    b = bounds f laws

    topped : (l n k p : ℕ) → Keyed f t l n k p → k ≤ f edge edge
    topped l n k p (inl h) = let e = h.amount in omega (arith, b.topped l n l p)
    topped l n k p (inr h) = let e = h.amount in omega arith

    limited : (l n k p : ℕ) → Keyed f t l n k p → k ≤ most
    limited l n k p h = le_trans (topped l n k p h) (laws.limited edge edge (omega arith) (omega arith))

    key_bounds : (l n k p : ℕ) → Keyed f t l n k p → KeyBounds f t l n k
    key_bounds l n k p (inl h) a e lt i held =
        let c = counted_holds_a_cell t facts l p h.counted in
        let d : distance f a c.0 ≤ far f l (a / parts ^ l) l (c.0 / parts ^ l) = b.far_cells l l a c.0 lt (held_on_board t facts c.0 c.2) in
        let x : distance f a c.0 ≤ far f l n l p = subst (λ y. distance f a c.0 ≤ far f l n l y) c.1 (subst (λ y. distance f a c.0 ≤ far f l y l (c.0 / parts ^ l)) i d) in
        (c.0, c.2, subst (λ y. distance f a c.0 ≤ y) (sym h.amount) x)
    key_bounds l n k p (inr h) a e lt i held =
        let d = b.cell_far a e lt (held_on_board t facts e held) in
        let k≡ = h.amount in
        (e, held, omega (arith, b.topped 0 a 0 e))

    key_falls : (l n k p : ℕ) → Keyed f t l n k p → KeyFalls f t l n k
    key_falls l n k p (inr h) j i k' p' e lt h' = let k≡ = h.amount in omega (arith, topped j (parts * n + i) k' p' h')
    key_falls l n k p (inl h) j i k' p' e lt h' =
        let on = (counted_on_board t facts l p h.counted).0 in
        let q = facts.counted_quarter j p (omega arith) (subst (λ m. Counts (t m p)) e h.counted) in
        let z : far f j (parts * n + i) j (parts * p + q.0) ≤ far f l n l p =
        subst (λ m. far f j (parts * n + i) j (parts * p + q.0) ≤ far f m n m p) (sym e) (b.quarters_far j n j p i q.0 lt q.1) in
        let k≡ = h.amount in
        go h' q.0 q.2 (omega arith)
      where
        go : Keyed f t j (parts * n + i) k' p' → (r : ℕ) → Counts (t j (parts * p + r)) → far f j (parts * n + i) j (parts * p + r) ≤ k → k' ≤ k
        go (inl g) r o z = le_trans (g.least (parts * p + r) o) z
        go (inr g) r o z = absurd (g.none (parts * p + r) o)

    cell_key : (n k p e : ℕ) → n < codes → Holds t e → Keyed f t 0 n k p → Nearest (distance f) (Holds t) n p × (k ≡ distance f n p)
    cell_key n k p e lt held (inr h) = absurd (h.none e held)
    cell_key n k p e lt held (inl h) =
        let to : (c : ℕ) → Holds t c → far f 0 n 0 c ≡ distance f n c = λ c o. b.cell_far n c lt (held_on_board t facts c o) in
        let is : k ≡ distance f n p = h.amount ∙ to p h.counted in (
          record {
            held = h.counted;
            nearest = λ c o. let x = h.least c o in let y = to c o in omega arith;
            earliest = λ c o i. h.earliest c o (to c o ∙ i ∙ sym is);
          },
          is,
        )

    key_of_cell : (l n k p : ℕ) → Keyed f t l n k p → KeyOfCell f t l n k p
    key_of_cell l n k p h e z lt held = cell_key n k p e lt held (subst (λ m. Keyed f t m n k p) z h)

    one : (l n k p k' p' : ℕ) → Keyed f t l n k p → Keyed f t l n k' p' → (k ≡ k') × (p ≡ p')
    one l n k p k' p' (inl g) (inl h) =
        let x = g.amount in
        let y = h.amount in
        let u = g.least p' h.counted in
        let v = h.least p g.counted in
        let e : k ≡ k' = omega arith in
        let a = g.earliest p' h.counted (sym y ∙ sym e) in
        let c = h.earliest p g.counted (sym x ∙ e) in
        (e, omega arith)
    one l n k p k' p' (inl g) (inr h) = absurd (h.none p g.counted)
    one l n k p k' p' (inr g) (inl h) = absurd (g.none p' h.counted)
    one l n k p k' p' (inr g) (inr h) = (g.amount ∙ sym h.amount, g.zero ∙ sym h.zero)

    pub key_laws : KeyLaws f t
    key_laws = record { bounds = key_bounds; falls = key_falls; of_cell = key_of_cell; limited = limited; one = one }

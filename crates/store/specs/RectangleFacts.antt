-- A rectangle places each square by its cells, and so is an exact store.
use Rattle.std.specs.Prelude.{◌≡◌, ℕ, ◌≤◌, max, true, false, ◌&&◌, nat_le}
use Rattle.std.proofs.Math.Logic.{inl, inr}
use Rattle.std.proofs.Common.{⊎_elim, sym, subst, ◌∙◌, arith}
use Rattle.std.proofs.lemmas.Bool.{true≢false, leb-false, and_parts, and_from, and_cases, cases_Bool}
use Rattle.std.proofs.lemmas.Bool.Decides.{nat_tests}
use Rattle.board.specs.Morton.{x_of, y_of, code}
use Rattle.board.specs.Spans.{first, last}
use Rattle.board.specs.Squares.{OnBoard, Inside}
use Rattle.board.specs.CodeFacts.Codes.{codes_are_exact}
use Rattle.store.specs.declared.rectangle.Rectangle.{Rectangle}
use Rattle.store.specs.Stores.{StoreFacts}
use Rattle.store.specs.Exact.{Shares, Exactly, on_board}
use Rattle.store.specs.BlockFacts.{columns_ordered, rows_ordered, cell_of, ends_of}
use Rattle.store.specs.ExactFacts.{decides_on_board, facts_of}
use Rattle.store.specs.Places.{Placed}
use Rattle.store.specs.PlaceFacts.{exactly_placed}
use Rattle.store.specs.Rectangles.{Covers, meets, lies, on_square, located, filled}

-- ---- one axis: the span from a to b of a square, the span from c to d of a rectangle

-- two spans that meet share a value
pub shared_value : (a b c d : ℕ) → a ≤ b → c ≤ d → meets a b c d ≡ true → (v : ℕ) × (a ≤ v) × (v ≤ b) × (c ≤ v) × (v ≤ d)
shared_value a b c d h k m =
    let p : (a ≤ d) × (c ≤ b) = grind (arith, nat_tests) in
    (max a c, omega arith, omega arith, omega arith, omega arith)

pub shared_meets : (a b c d v : ℕ) → a ≤ v → v ≤ b → c ≤ v → v ≤ d → meets a b c d ≡ true
shared_meets a b c d v p q r s = grind (arith, nat_tests)

pub lies_within : (a b c d v : ℕ) → lies a b c d ≡ true → a ≤ v → v ≤ b → (c ≤ v) × (v ≤ d)
lies_within a b c d v m p q = grind (arith, nat_tests)

-- a span that does not lie in another has a value outside it
pub value_outside : (a b c d : ℕ) → a ≤ b → lies a b c d ≡ false → (v : ℕ) × (a ≤ v) × (v ≤ b) × (((c ≤ v) × (v ≤ d)) → ⊥)
value_outside a b c d h m =
    ⊎_elim (λ f. let x = leb-false c a f in (a, omega arith, h, λ z. omega arith)) (λ f. let x = leb-false b d f in (b, h, omega arith, λ z. omega arith)) (and_cases (nat_le c a) (nat_le b d) m)

-- ---- where a square lies

module _ (r : Rectangle) (l n : ℕ) where
  -- the cell at a column and a row
  covers_code : (x y : ℕ) → r.columns.first ≤ x → x ≤ r.columns.last → r.rows.first ≤ y → y ≤ r.rows.last → Covers r (code x y)
  covers_code x y p q s t =
      let column = codes_are_exact.column x y in
      let row = codes_are_exact.row x y in
      (omega arith, omega arith, omega arith, omega arith)

  meets_shares : OnBoard l n → on_square meets l n r ≡ true → Shares (Covers r) l n
  meets_shares b m =
      let p = and_parts (meets (first l (x_of n)) (last l (x_of n)) r.columns.first r.columns.last) (meets (first l (y_of n)) (last l (y_of n)) r.rows.first r.rows.last) m in
      let x = shared_value _ _ _ _ (columns_ordered l n b) r.columns.ordered p.0 in
      let y = shared_value _ _ _ _ (rows_ordered l n b) r.rows.ordered p.1 in
      (code x.0 y.0, covers_code x.0 y.0 x.3 x.4 y.3 y.4, cell_of l n b x.0 y.0 x.1 x.2 y.1 y.2)

  shares_meets : OnBoard l n → Shares (Covers r) l n → on_square meets l n r ≡ true
  shares_meets b s =
      let e = ends_of l n b s.0 s.2 in
      and_from _ _
      (shared_meets (first l (x_of n)) (last l (x_of n)) r.columns.first r.columns.last (x_of s.0) e.0 e.1 s.1.0 s.1.1)
      (shared_meets (first l (y_of n)) (last l (y_of n)) r.rows.first r.rows.last (y_of s.0) e.2 e.3 s.1.2 s.1.3)

  lies_covers : OnBoard l n → on_square lies l n r ≡ true → (c : ℕ) → Inside l n c → Covers r c
  lies_covers b m c i =
      let p = and_parts (lies (first l (x_of n)) (last l (x_of n)) r.columns.first r.columns.last) (lies (first l (y_of n)) (last l (y_of n)) r.rows.first r.rows.last) m in
      let e = ends_of l n b c i in
      let x = lies_within _ _ _ _ (x_of c) p.0 e.0 e.1 in
      let y = lies_within _ _ _ _ (y_of c) p.1 e.2 e.3 in
      (x.0, x.1, y.0, y.1)

  out_shares : OnBoard l n → on_square lies l n r ≡ false → Shares (λ c. Covers r c → ⊥) l n
  out_shares b m =
      ⊎_elim
      (λ f.
      let x = value_outside _ _ _ _ (columns_ordered l n b) f in
      let y = first l (y_of n) in
      let column = codes_are_exact.column x.0 y in
      (code x.0 y, λ h. x.3 (subst (λ v. (r.columns.first ≤ v) × (v ≤ r.columns.last)) column (h.0, h.1)), cell_of l n b x.0 y x.1 x.2 (omega arith) (rows_ordered l n b)))
      (λ f.
      let y = value_outside _ _ _ _ (rows_ordered l n b) f in
      let x = first l (x_of n) in
      let row = codes_are_exact.row x y.0 in
      (code x y.0, λ h. y.3 (subst (λ v. (r.rows.first ≤ v) × (v ≤ r.rows.last)) row (h.2, h.3)), cell_of l n b x y.0 (omega arith) (columns_ordered l n b) y.1 y.2))
      (and_cases (lies (first l (x_of n)) (last l (x_of n)) r.columns.first r.columns.last) (lies (first l (y_of n)) (last l (y_of n)) r.rows.first r.rows.last) m)

  -- each place is what it says
  pub placed : Placed (Covers r) l n (located r l n)
  unfolding located
  placed =
      elim (cases_Bool (on_board l n && on_square meets l n r)) [
        | inl t ↦
            let h = and_parts (on_board l n) (on_square meets l n r) t in
            let b = (decides_on_board l n).0 h.0 in
            rw t (
            elim (cases_Bool (on_square lies l n r)) [
              | inl u ↦ rw u (b, lies_covers b u)
              | inr u ↦ rw u (b, meets_shares b h.1, out_shares b u)
            ]
            )
        | inr f ↦ rw f (λ z. true≢false (sym (and_from _ _ ((decides_on_board l n).1 z.0) (shares_meets z.0 z.1)) ∙ f))
      ]

-- ---- the store

pub exactly_rectangle : (r : Rectangle) → Exactly (Covers r) (filled r)
exactly_rectangle r = exactly_placed (Covers r) (located r) (placed r)

pub rectangle_facts : (r : Rectangle) → StoreFacts (filled r)
rectangle_facts r = facts_of (Covers r) (filled r) (exactly_rectangle r)

-- The tests of a query of a rectangle, and the place that they give.
use Rattle.std.proofs.Common.{◌≡◌, ℕ, Bool, cond, refl, sym, ◌∙◌, subst}
use Rattle.board.specs.Morton.{x_of, y_of}
use Rattle.board.specs.Spans.{first, last}
use Rattle.board.specs.Squares.{OnBoard}
use Rattle.store.specs.declared.rectangle.Place.{Place}
use Rattle.store.specs.declared.rectangle.Place.TheVariants.{Apart, Across, Within}
use Rattle.store.specs.declared.rectangle.Rectangle.{Rectangle}
use Rattle.store.specs.ExactFacts.{decides_on_board}
use Rattle.store.specs.Places.{Placed}
use Rattle.store.specs.PlaceFacts.{apart_from}
use Rattle.store.specs.Rectangles.{Covers, Ends, meets, lies, both_axes, on_square, located}
use Rattle.store.specs.RectangleFacts.{placed}

-- the rectangle has the columns and rows of the square n of level l
abbrev pub IsBlock : ℕ → ℕ → Rectangle → Type 0
IsBlock l n = Ends (first l (x_of n)) (first l (y_of n)) (last l (x_of n)) (last l (y_of n))

of_block : (test : ℕ → ℕ → ℕ → ℕ → Bool) (l n : ℕ) (b r : Rectangle) → IsBlock l n b → both_axes test b r ≡ on_square test l n r
of_block test l n b r e = rw (e.west_end, e.east_end, e.south_end, e.north_end) refl

module _ (r : Rectangle) (l n : ℕ) where
  -- the place q is the square's, and says so of its cells
  abbrev pub Answered : Place → Type 0
  Answered q = (q ≡ located r l n) × Placed (Covers r) l n q

  answered : (q : Place) → q ≡ located r l n → Answered q
  answered q e = (e, subst (Placed (Covers r) l n) (sym e) (placed r l n))

  pub off_board : (OnBoard l n → ⊥) → Answered Apart
  off_board f = answered Apart (sym (apart_from (Covers r) l n (located r l n) (placed r l n) (λ z. f z.0)))

  by_tests : (m i : Bool) → OnBoard l n → m ≡ on_square meets l n r → i ≡ on_square lies l n r → cond m (cond i Within Across) Apart ≡ located r l n
  unfolding located
  by_tests m i b e f =
      let h = (decides_on_board l n).1 b in
      rw (h, ← e, ← f)

  -- the two tests, m and i, of the block of cells of a square of the board
  pub on_board_so : (block : Rectangle) → OnBoard l n → IsBlock l n block → (m i : Bool) → m ≡ both_axes meets block r → i ≡ both_axes lies block r → Answered (cond m (cond i Within Across) Apart)
  on_board_so block b ends m i e f = answered _ (by_tests m i b (e ∙ of_block meets l n block r ends) (f ∙ of_block lies l n block r ends))

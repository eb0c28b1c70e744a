-- What the pile holds, by what each of its layers holds.
use Rattle.std.proofs.Common.{◌≡◌, ℕ, ◌⊎◌, List, inl, inr, ⊎_elim}
use Rattle.board.specs.Lists.{Has}
use Rattle.store.specs.declared.rectangle.Rectangle.{Rectangle}
use Rattle.store.specs.declared.store.Answer.{Answer}
use Rattle.store.specs.Eithers.{joined}
use Rattle.store.specs.EitherFacts.{either_facts, either_set}
use Rattle.store.specs.Exact.{HoldsSet, exact}
use Rattle.store.specs.ExactFacts.{exact_facts, exactly_list, set_of}
use Rattle.store.specs.Rectangles.{Covers, located, filled}
use Rattle.store.specs.RectangleFacts.{placed, exactly_rectangle, rectangle_facts}
use Rattle.store.specs.Stores.{Holds, StoreFacts}
use Rattle.store.specs.WindowFacts.{window_set, windowed_facts}
use Rattle.store.specs.Windows.{windowed}

-- the cells of a window, by those of the store below
through : (r : Rectangle) (t : ℕ → ℕ → Answer) → StoreFacts t → HoldsSet (λ c. Holds t c × Covers r c) (windowed r t)
through r t f = window_set (Covers r) (located r) (placed r) t f

pub piled : (outer frame inner : Rectangle) (cs : List ℕ)
    → HoldsSet (λ c. (Has cs c ⊎ (Covers inner c × Covers frame c)) × Covers outer c) (windowed outer (joined (exact cs) (windowed frame (filled inner))))
piled outer frame inner cs =
    let film = windowed frame (filled inner) in
    let below = through frame (filled inner) (rectangle_facts inner) in
    let both = either_set (exact cs) film in
    let list = set_of (Has cs) (exact cs) (exactly_list cs) in
    let cells = set_of (Covers inner) (filled inner) (exactly_rectangle inner) in
    let above = through outer (joined (exact cs) film) (either_facts (exact cs) film (exact_facts cs) (windowed_facts frame (filled inner) (rectangle_facts inner))) in
    record {
      all = λ c h p. above.all c h (both.all c h (⊎_elim (λ y. inl (list.all c h y)) (λ y. inr (below.all c h (cells.all c h y.0, y.1))) p.0), p.1);
      only = λ c y.
          let w = above.only c y in
          (⊎_elim (λ z. inl (list.only c z)) (λ z. let v = below.only c z in inr (cells.only c v.0, v.1)) (both.only c w.0), w.1);
    }

-- the same, of parts that are kept as they were
pub piled_as : (outer frame inner outer' frame' inner' : Rectangle) (cs cs' : List ℕ) → outer' ≡ outer → frame' ≡ frame → inner' ≡ inner → cs' ≡ cs
    → HoldsSet (λ c. (Has cs c ⊎ (Covers inner c × Covers frame c)) × Covers outer c) (windowed outer' (joined (exact cs') (windowed frame' (filled inner'))))
piled_as outer frame inner outer' frame' inner' cs cs' a b d e = rw (a, b, d, e) (piled outer frame inner cs)

-- A walk on which the cells of a square are tried.
use Rattle.std.proofs.Common.{◌≡◌, ℕ, ◌-◌, ◌≤◌, Bool, false, sym, refl, ◌∙◌, subst, inl, inr, div-one, arith}
use Rattle.board.specs.Squares.{Inside}
use Rattle.board.specs.declared.square.Square.{Square}
use Rattle.search.specs.Descents.{Under}
use Rattle.search.specs.Visits.{Met}
use Rattle.search.proofs.Laters.{later_same}
use Rattle.store.specs.Stores.{StoreFacts}
use Rattle.store.specs.declared.store.Answer.{Answer}
use Rattle.store.specs.declared.store.Answer.TheVariants.{Empty}
use Rattle.store.proofs.Sounds.{empty_holds_none}
use Rattle.comparison.specs.declared.ground.Ground.{Ground}
use Rattle.comparison.specs.declared.record.Figures.{Figures}
use Rattle.comparison.specs.declared.trial.Trial.{Trial}
use Rattle.comparison.specs.Calls.{Improves, Source, Tried}
use Rattle.comparison.specs.Trials.{over, Stays, floor, since, done, Dived, comes}
use Rattle.comparison.specs.World.{InFilm, KeyedAt}

-- what improves figures that improve others improves these too
pub improves_onward : (f g : Figures) (k c : ℕ) → Improves f g.low g.film → Improves g k c → Improves f k c
improves_onward f g k c (inl a) (inl b) = inl (omega arith)
improves_onward f g k c (inl a) (inr b) = inl (omega arith)
improves_onward f g k c (inr a) (inl b) = inl (omega arith)
improves_onward f g k c (inr a) (inr b) = inr (omega arith, omega arith)

under_cells : (l n q : ℕ) → Under 0 l n q → Inside l n q
under_cells l n q u = let e : l - 0 ≡ l = omega arith in subst (λ x. Inside x n q) e u

under_one : (l n q : ℕ) → l ≤ 0 → Under 0 l n q → q ≡ n
under_one l n q h u = let e : l - 0 ≡ 0 = omega arith in sym (div-one q) ∙ subst (λ x. Inside x n q) e u

pub cells_under : (l n q : ℕ) → Inside l n q → Under 0 l n q
cells_under l n q i = let e : l ≡ l - 0 = omega arith in subst (λ x. Inside x n q) e i

module _ {A B M : Type 0} (film : A → ℕ → ℕ → Answer) (drawing : B → ℕ → ℕ → Answer) (amount : M → ℕ → ℕ → ℕ) where
  pub stays_same : (u : Ground A B M) → Stays film drawing amount u u
  stays_same u = record { world = refl; idle = λ e. e }

  pub stays_onward : {u v w : Ground A B M} → Stays film drawing amount u v → Stays film drawing amount v w → Stays film drawing amount u w
  stays_onward a b = record { world = b.world ∙ a.world; idle = λ e. b.idle (a.idle e) }

  abbrev Meets : Trial A B M → Square → Bool → Trial A B M → Type 0
  Meets v s r w = Met (floor film drawing amount) (since film drawing amount) (done film drawing amount) (comes film drawing amount) v s r w

  -- a square larger than a cell: where the walk does not go on, it is empty
  pub meets_square : (v : Trial A B M) (s : Square) (on : Bool) → StoreFacts (film v.ground.film) → s.level ≤ 16 → (on ≡ false → film v.ground.film s.level s.number ≡ Empty) → Meets v s on v
  meets_square v s on f h d = record { later = later_same v; done_below = λ e q u i o k p r im. empty_holds_none (film v.ground.film) f s.level s.number q h (d e) (under_cells s.level s.number q u) o }

  -- a cell of another square
  pub meets_other : (v : Trial A B M) (s : Square) → s.level ≤ 0 → (Inside v.square.level v.square.number s.number → ⊥) → Meets v s false v
  meets_other v s h n = record {
    later = later_same v;
    done_below = λ e q u i o k p r im. n (subst (Inside v.square.level v.square.number) (under_one s.level s.number q h u) i);
  }

  module _ (v w : Trial A B M) (n : ℕ) (st : Stays film drawing amount v.ground w.ground) (sq : w.square ≡ v.square) (t : Tried (over film drawing amount 0 v.ground) (λ x. x ≡ n) v.figures w.figures) where
    worse : (k c : ℕ) → Improves w.figures k c → Improves v.figures k c
    worse k c i = go t.source
      where
        go : Source (over film drawing amount 0 v.ground) (λ x. x ≡ n) v.figures w.figures → Improves v.figures k c
        go (inl e) = subst (λ f. Improves f k c) e i
        go (inr s) = improves_onward v.figures w.figures k c s.3 i

    keeps : (q : ℕ) → done film drawing amount v q → done film drawing amount w q
    keeps q d i o k p r im =
        d (subst (λ s. Inside s.level s.number q) sq i) (subst (λ x. InFilm x q) st.world o) k p (subst (λ x. KeyedAt x 0 q k p) st.world r) (worse k q im)

    from : Inside v.square.level v.square.number n → (u : Trial A B M) → Dived film drawing amount u v → Dived film drawing amount u w
    from i u d = record {
      stays = stays_onward d.stays st;
      square = sq ∙ d.square;
      source = go t.source;
    }
      where
        first : Source (over film drawing amount 0 u.ground) (Inside u.square.level u.square.number) u.figures v.figures → Improves v.figures w.figures.low w.figures.film → Improves u.figures w.figures.low w.figures.film
        first (inl e) im = subst (λ f. Improves f w.figures.low w.figures.film) e im
        first (inr s) im = improves_onward u.figures v.figures w.figures.low w.figures.film s.3 im

        go : Source (over film drawing amount 0 v.ground) (λ x. x ≡ n) v.figures w.figures → Source (over film drawing amount 0 u.ground) (Inside u.square.level u.square.number) u.figures w.figures
        go (inl e) = subst (Source (over film drawing amount 0 u.ground) (Inside u.square.level u.square.number) u.figures) (sym e) d.source
        go (inr s) = inr (
          subst (λ s. Inside s.level s.number w.figures.film) d.square (subst (Inside v.square.level v.square.number) (sym s.0) i),
          subst (λ x. InFilm x w.figures.film) d.stays.world s.1,
          subst (λ x. KeyedAt x 0 w.figures.film w.figures.low w.figures.drawing) d.stays.world s.2,
          first d.source s.3,
        )

    -- a cell that is tried
    pub meets_cell : (s : Square) → s.level ≤ 0 → s.number ≡ n → Inside v.square.level v.square.number n → Meets v s false w
    meets_cell s h e i = record {
      later = record { same = refl; begun = refl; keeps = keeps; from = from i };
      done_below = λ z q u j o k p r im.
          t.best q k p (under_one s.level s.number q h u ∙ e) (subst (λ x. InFilm x q) st.world o) (subst (λ x. KeyedAt x 0 q k p) st.world r) im;
    }

  -- the walk is over
  module _ (u v : Trial A B M) (met : Meets u u.square false v) where
    dived : Dived film drawing amount u v
    dived = met.later.from u (record { stays = stays_same u.ground; square = refl; source = inl refl })

    pub walked_stays : Stays film drawing amount u.ground v.ground
    walked_stays = dived.stays

    pub walked_tried : (n : ℕ) → Tried (over film drawing amount n u.ground) (Inside u.square.level u.square.number) u.figures v.figures
    walked_tried n = record {
      source = dived.source;
      best = λ c k p i o r im.
          met.done_below refl c (cells_under u.square.level u.square.number c i)
          (subst (λ s. Inside s.level s.number c) (sym dived.square) i)
          (subst (λ x. InFilm x c) (sym dived.stays.world) o) k p
          (subst (λ x. KeyedAt x 0 c k p) (sym dived.stays.world) r) im;
    }

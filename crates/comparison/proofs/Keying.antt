-- Keys and the cells of a square, over a world whose stores and measure owe their facts.
use Rattle.std.proofs.Common.{◌≡◌, ℕ, suc, ◌+◌, ◌*◌, ◌/◌, ◌%◌, ◌^◌, ◌<◌, ◌≤◌, min, ◌⊎◌, sym, refl, ap, ◌∙◌, ap₂, inl, inr, le_trans, pow-suc, div-mul-le_self, div-one, arith}
use native.Mathlib.Nat.{div-div-eq-div-mul, div-eq_of_lt}
use Rattle.std.proofs.lemmas.Bool.{cases_lt}
use Rattle.board.specs.CodeFacts.Codes.{codes_are_exact}
use Rattle.board.specs.Findings.{code_of}
use Rattle.board.specs.Morton.{code, x_of, y_of}
use Rattle.board.specs.declared.cell.Cell.{Cell}
use Rattle.board.proofs.Bounded.{bounds}
use Rattle.search.specs.Keys.{KeyLaws}
use Rattle.search.proofs.Keying.{key_laws}
use Rattle.store.proofs.Sounds.{empty_holds_none, held_on_board}
use Rattle.store.specs.Stores.{counts, Counts}
use Rattle.store.specs.declared.store.Answer.{Answer}
use Rattle.store.specs.declared.store.Answer.TheVariants.{Empty, Occupied, Unknown}
use Rattle.comparison.specs.World.{World, Facts, InFilm, InDrawing, NearestTo, KeyedAt, dist}

-- the cell of a code has that code
pub cell_of : (c : Cell) (n : ℕ) → c.x ≡ x_of n → c.y ≡ y_of n → code_of c ≡ n
cell_of c n x y = ap₂ code x y ∙ codes_are_exact.back n

-- below k, or k itself
pub last : {X : Type 0} (k r : ℕ) → r < suc k → (r < k → X) → (r ≡ k → X) → X
last {X} k r h f g = go (cases_lt r k)
  where
    go : (r < k) ⊎ (k ≤ r) → X
    go (inl lt) = f lt
    go (inr le) = g (omega arith)

-- a cell is in a quarter of each square that holds it
pub in_quarter : (c l n : ℕ) → c / 4 ^ suc l ≡ n → c / 4 ^ l ≡ 4 * n + (c / 4 ^ l) % 4
in_quarter c l n e =
    let d : c / 4 ^ l / 4 ≡ n = div-div-eq-div-mul c (4 ^ l) 4 ∙ rw (← pow-suc) e in
    omega arith

pub at_cell : (c n : ℕ) → c / 4 ^ 0 ≡ n → c ≡ n
at_cell c n e = sym (div-one c) ∙ e

-- a square's first cell is no later than its cells
pub first_cell : (l n c : ℕ) → l ≤ 16 → c / 4 ^ l ≡ n → n * 4 ^ min l 16 ≤ c
first_cell l n c b h =
    let e : min l 16 ≡ l = omega arith in
    rw (e, ← h) (div-mul-le_self c (4 ^ l))

module _ (w : World) (fs : Facts w) where
  pub laws : KeyLaws w.measure w.drawing
  laws = key_laws w.drawing fs.drawing w.measure fs.measure

  pub film_code : (c : ℕ) → InFilm w c → c < 2 ^ 32
  film_code c o = held_on_board w.film fs.film c o

  pub drawing_code : (c : ℕ) → InDrawing w c → c < 2 ^ 32
  drawing_code c o = held_on_board w.drawing fs.drawing c o

  -- a square's key bounds the distance of each cell in it
  pub key_bounds : (l n k p c e : ℕ) → c < 2 ^ 32 → KeyedAt w l n k p → c / 4 ^ l ≡ n → NearestTo w c e → dist w c e ≤ k
  key_bounds l n k p c e lt r h near =
      let x = laws.bounds l n k p r c e lt h near.held in
      le_trans (near.nearest x.0 x.1) x.2

  -- a quarter's key is at most its square's
  pub quarter_key : (l n i k p k' p' : ℕ) → i < 4 → KeyedAt w (l + 1) n k p → KeyedAt w l (4 * n + i) k' p' → k' ≤ k
  quarter_key l n i k p k' p' h r r' = laws.falls (l + 1) n k p r l i k' p' refl h r'

  -- a cell's key is its distance, with its nearest cell
  pub cell_key : (n k p q : ℕ) → n < 2 ^ 32 → KeyedAt w 0 n k p → InDrawing w q → NearestTo w n p × (k ≡ dist w n p)
  cell_key n k p q lt r o = laws.of_cell 0 n k p r q refl lt o

  -- and the other way round
  pub nearest_keyed : (c e : ℕ) → c < 2 ^ 32 → NearestTo w c e → KeyedAt w 0 c (dist w c e) e
  nearest_keyed c e lt near =
      let b = bounds w.measure fs.measure in
      let to = λ (q : ℕ) (o : InDrawing w q). b.cell_far c q lt (drawing_code q o) in
      inl (record {
        counted = near.held;
        amount = sym (to e near.held);
        least = λ q o. let x = near.nearest q o in let y = to q o in omega arith;
        earliest = λ q o i. near.earliest q o (sym (to q o) ∙ i);
      })

  -- a held cell's squares are not empty
  pub not_empty : (l n c : ℕ) → l ≤ 16 → InFilm w c → c / 4 ^ l ≡ n → w.film l n ≡ Empty → ⊥
  not_empty l n c b o h e = empty_holds_none w.film fs.film l n c b e h o

  -- a cell that is not empty is held
  pub cell_held : (n : ℕ) → (w.film 0 n ≡ Empty → ⊥) → InFilm w n
  cell_held n h = go (w.film 0 n) refl
    where
      go : (a : Answer) → w.film 0 n ≡ a → Counts (w.film 0 n)
      go Empty e = absurd (h e)
      go Occupied e = ap counts e
      go Unknown e = absurd (fs.film.cell_known n e)

  -- every held cell is on the board
  pub on_board : (c : ℕ) → InFilm w c → c / 4 ^ 16 ≡ 0
  on_board c h = div-eq_of_lt (film_code c h)

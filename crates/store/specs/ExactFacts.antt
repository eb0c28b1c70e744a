-- What an exact store owes, proved once for any set of cells and any list of codes.
use Rattle.std.specs.Prelude.{◌≡◌, ℕ, suc, ◌+◌, ◌-◌, ◌*◌, ◌/◌, ◌%◌, ◌^◌, ◌<◌, Bool, true, false, cond, ◌&&◌, ◌⊎◌, List, Decides, ◌==◌, ◌≢◌, nat_le, nat_lt, refl}
use Rattle.std.proofs.Common.{inl, inr, ⊎_elim, sym, ap, subst, ◌∙◌, get_or, div-one, pow-suc, add-one, arith}
use Rattle.std.proofs.Math.Nat.{div-div-eq-div-mul}
use Rattle.std.proofs.lemmas.Bool.{true≢false, leb-true, le-leb, and_parts, and_from, and_left, cases_Bool, cond-true, cond-false}
use Rattle.std.proofs.lemmas.Bool.Decides.{Decides-and, Decides-ltb, Decides-eqb, Decides-like, Decides-by_or}
use Rattle.std.proofs.lemmas.List.{get_or_default}
use Rattle.board.specs.Limits.{top, parts}
use Rattle.board.specs.Lists.{Has}
use Rattle.board.specs.Squares.{OnBoard, Inside}
use Rattle.board.proofs.Boards.{quarter_on_board}
use Rattle.store.specs.declared.store.Answer.{Answer}
use Rattle.store.specs.declared.store.Answer.TheVariants.{Empty, Occupied, Unknown}
use Rattle.store.specs.Stores.{counts, Counts, StoreFacts}
use Rattle.store.specs.Exact.{Shares, HoldsSet, Exactly, on_board, tested, occupied, exact}

-- ---- answers

-- an answer is empty, counts, or is unknown
pub each_answer : (r : Answer) → (r ≡ Empty) ⊎ (Counts r ⊎ (r ≡ Unknown))
each_answer Empty = inl refl
each_answer Occupied = inr (inl refl)
each_answer Unknown = inr (inr refl)

-- what is empty does not count
pub empty_no_count : (r : Answer) → r ≡ Empty → Counts r → ⊥
empty_no_count r e k = true≢false (sym k ∙ ap counts e)

-- ---- squares

pub decides_on_board : (l n : ℕ) → Decides (on_board l n) (OnBoard l n)
decides_on_board l n = Decides-and (nat_le l top) (nat_lt n (parts ^ (top - l))) (leb-true l top, le-leb l top) (Decides-ltb n (parts ^ (top - l)))

-- the square around a square
pub up_one : (c l : ℕ) → c / parts ^ l / parts ≡ c / parts ^ (l + 1)
up_one c l = div-div-eq-div-mul c (parts ^ l) parts ∙ ap (λ x. c / x) (sym (pow-suc parts l) ∙ ap (λ x. parts ^ x) (sym (add-one l)))

-- a cell of a quarter is one of the square
pub outward : (l n k c : ℕ) → k < parts → Inside l (parts * n + k) c → Inside (l + 1) n c
outward l n k c h i = let u = up_one c l in omega arith

-- a cell of a square is one of a quarter
pub inward : (l n c : ℕ) → Inside (l + 1) n c → c / parts ^ l ≡ parts * n + c / parts ^ l % parts
inward l n c i = let u = up_one c l in omega arith

pub cell_inside : (n c : ℕ) → Inside 0 n c → c ≡ n
cell_inside n c i = sym (div-one c) ∙ i

-- a square is on the board where one of its quarters is
pub square_on_board : (l n k : ℕ) → l < top → k < parts → OnBoard l (parts * n + k) → OnBoard (l + 1) n
square_on_board l n k h j b =
    let e : top - l ≡ suc (top - (l + 1)) = omega arith in
    let f : parts ^ (top - l) ≡ parts ^ (top - (l + 1)) * parts = ap (λ x. parts ^ x) e ∙ pow-suc parts (top - (l + 1)) in
    (omega arith, omega arith)

-- and a quarter is on the board where the square is
pub quarter_on : (l n k : ℕ) → OnBoard (l + 1) n → k < parts → OnBoard l (parts * n + k)
quarter_on l n k b j =
    let i : l + 1 - 1 ≡ l = omega arith in
    subst (λ x. OnBoard x (parts * n + k)) i (quarter_on_board (l + 1) n k b (omega arith) j)

-- ---- the facts

module _ (P : ℕ → Type 0) (t : ℕ → ℕ → Answer) (e : Exactly P t) where
  -- a square that does not count is empty
  pub else_empty : (l n : ℕ) → (Counts (t l n) → ⊥) → t l n ≡ Empty
  else_empty l n f =
      elim (each_answer (t l n)) [ inl z ↦ z | inr r ↦ absurd (⊎_elim f (e.sure l n) r) ]

  pub facts_of : StoreFacts t
  facts_of = record {
    cell_known = e.sure 0;
    empty_quarters = λ l n k h j z.
        else_empty l (parts * n + k)
        (λ y.
        let s = e.shown l (parts * n + k) y in
        empty_no_count (t (l + 1) n) z (e.shared (l + 1) n (square_on_board l n k h j s.0) (s.1.0, s.1.1, outward l n k s.1.0 j s.1.2)));
    counted_quarter = λ l n h y.
        let s = e.shown (l + 1) n y in
        let c = s.1.0 in
        let k = c / parts ^ l % parts in
        let j : k < parts = omega arith in
        (k, j, e.shared l (parts * n + k) (quarter_on l n k s.0 j) (c, s.1.1, inward l n c s.1.2));
    off_board = λ l n f. else_empty l n (λ y. f (e.shown l n y).0);
  }

  -- the cells held are those of the set
  pub set_of : HoldsSet P t
  set_of = record {
    all = λ c h p. e.shared 0 c (omega arith, h) (c, p, div-one c);
    only = λ c y. let s = (e.shown 0 c y).1 in subst P (cell_inside c s.0 s.2) s.1;
  }

-- ---- a table by a test

counts_cond : (b : Bool) → Counts (cond b Occupied Empty) → b ≡ true
counts_cond true k = refl
counts_cond false k = k

sure_cond : (b : Bool) → cond b Occupied Empty ≢ Unknown
sure_cond true e = cc
sure_cond false e = cc

-- a test that passes where the square shares a cell with the set makes an exact table
module _ (P : ℕ → Type 0) (test : ℕ → ℕ → Bool) (d : (l n : ℕ) → OnBoard l n → Decides (test l n) (Shares P l n)) where
  pub exactly_tested : Exactly P (tested test)
  exactly_tested = record {
    shared = λ l n b s. ap counts (cond-true (on_board l n && test l n) Occupied Empty (and_from (on_board l n) (test l n) ((decides_on_board l n).1 b) ((d l n b).1 s)));
    shown = λ l n y.
        let h = and_parts (on_board l n) (test l n) (counts_cond (on_board l n && test l n) y) in
        let b = (decides_on_board l n).0 h.0 in
        (b, (d l n b).0 h.1);
    sure = λ l n z. sure_cond (on_board l n && test l n) z;
  }

-- what a query has to answer off the board, and on it
pub tested_off : (test : ℕ → ℕ → Bool) (l n : ℕ) → (OnBoard l n → ⊥) → tested test l n ≡ Empty
tested_off test l n f =
    cond-false (on_board l n && test l n) Occupied Empty (and_left (on_board l n) (test l n) (⊎_elim (λ t. absurd (f ((decides_on_board l n).0 t))) (λ e. e) (cases_Bool (on_board l n))))

pub tested_on : (test : ℕ → ℕ → Bool) (l n : ℕ) → OnBoard l n → tested test l n ≡ cond (test l n) Occupied Empty
tested_on test l n b = ap (λ x. cond (x && test l n) Occupied Empty) ((decides_on_board l n).1 b)

-- ---- lists of codes

pub decides_occupied : (cs : List ℕ) (l n : ℕ) → Decides (occupied cs l n) (Shares (Has cs) l n)
unfolding occupied
decides_occupied cs l n =
    Decides-like (occupied cs l n)
    (λ s. (get_or cs s.0 0, (s.0, s.1, refl), s.2 0))
    (λ s. (s.1.0, s.1.1, λ d. subst (Inside l n) (sym s.1.2 ∙ get_or_default cs s.1.0 0 d s.1.1) s.2))
    (Decides-by_or (λ c. c / parts ^ l == n) (Inside l n) (λ xs. occupied xs l n) (λ c. Decides-eqb (c / parts ^ l) n) refl (λ _ _. refl) cs)

pub exactly_list : (cs : List ℕ) → Exactly (Has cs) (exact cs)
exactly_list cs = exactly_tested (Has cs) (occupied cs) (λ l n _. decides_occupied cs l n)

pub exact_facts : (cs : List ℕ) → StoreFacts (exact cs)
exact_facts cs = facts_of (Has cs) (exact cs) (exactly_list cs)

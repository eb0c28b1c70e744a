-- A square and the first code of a rising list that is not below it.
use Rattle.std.proofs.Common.{◌≡◌, ℕ, ◌+◌, ◌*◌, ◌/◌, ◌^◌, ◌<◌, ◌≤◌, false, List, length, get_or, sym, refl, ap, ◌∙◌, subst, ⊎_elim, lt_of_le_of_lt, div-lt_iff_lt-mul, arith}
use native.Mathlib.Nat.{div-eq_of_lt-le}
use Rattle.std.proofs.lemmas.Bool.{cases_Bool, cases_eq, cases_lt, cond-true, cond-false}
use Rattle.std.proofs.lemmas.List.Kept.{AllPairs-from_increasing}
use Rattle.std.specs.List.Sorted.{IsNonDecreasing}
use Rattle.std.proofs.Common.{Result, Ok, Err, MatchResult}
use Rattle.std.specs.List.Sorted.{IsBinarySearchResult}
use Rattle.std.specs.Ordering.{nat_cmp}
use Rattle.std.proofs.lemmas.List.Sorted.{searched}
use Rattle.board.specs.Limits.{parts}
use Rattle.board.specs.Lists.{Rising, Has}
use Rattle.board.specs.Squares.{OnBoard, Inside}
use Rattle.board.proofs.Boards.{first-least}
use Rattle.board.specs.SquareOrderFacts.{four_positive}
use Rattle.store.specs.declared.store.Answer.TheVariants.{Empty, Occupied}
use Rattle.store.specs.Exact.{Shares, occupied, exact}
use Rattle.store.specs.ExactFacts.{decides_occupied, tested_on}

-- a rising list does not fall
pub in_order : (cs : List ℕ) → Rising cs (length cs) → IsNonDecreasing cs
in_order cs r i j d h k =
    ⊎_elim (λ e. let f = ap (λ x. get_or cs x d) e in omega arith) (λ f. let m = AllPairs-from_increasing cs r i j d (omega arith) k in omega arith) (cases_eq i j)

-- what a search for a code found: the codes before the place are below it, the others are not
pub sides : (cs : List ℕ) (code place : ℕ) (r : Result ℕ ℕ) → Rising cs (length cs) → IsBinarySearchResult (λ y. nat_cmp y code) cs r → MatchResult r (λ p. place ≡ p) (λ p. place ≡ p)
    → ((k : ℕ) → k < place → get_or cs k 0 < code) × ((k : ℕ) → place ≤ k → k < length cs → code ≤ get_or cs k 0)
sides cs code place (Ok p) rising found e =
    let s = searched cs code (Ok p) found (λ i j. in_order cs rising i j 0) in
    (λ k h. let m = AllPairs-from_increasing cs rising k p 0 (omega arith) s.0 in omega (arith, s.1), λ k h j. let m = in_order cs rising p k 0 (omega arith) j in omega (arith, s.1))
sides cs code place (Err p) rising found e =
    let s = searched cs code (Err p) found (λ i j. in_order cs rising i j 0) in
    (λ k h. s.1 k (omega arith), λ k h j. let m = s.2 k (omega arith) j in omega arith)

-- a code between the first code of a square and one of its codes is one of its codes
between : (l n a b : ℕ) → n * parts ^ l ≤ a → a ≤ b → Inside l n b → Inside l n a
between l n a b h k i =
    let u : b / parts ^ l < n + 1 = omega arith in
    let v : b < (n + 1) * parts ^ l = (div-lt_iff_lt-mul (four_positive l)).0 u in
    div-eq_of_lt-le (parts ^ l) h (lt_of_le_of_lt k v)

module _ (cs : List ℕ) (rising : Rising cs (length cs)) (l n place : ℕ) (b : OnBoard l n) where
  -- the code at the place is one of the square's
  pub found : place < length cs → Inside l n (get_or cs place 0) → Occupied ≡ exact cs l n
  found h i =
      let t = (decides_occupied cs l n).1 (get_or cs place 0, (place, h, refl), i) in
      sym (tested_on (occupied cs) l n b ∙ cond-true (occupied cs l n) Occupied Empty t)

  -- where the code at the first place that is not below the square is none of its codes, no code is
  pub missing : ((k : ℕ) → k < place → get_or cs k 0 < n * parts ^ l) → ((k : ℕ) → place ≤ k → k < length cs → n * parts ^ l ≤ get_or cs k 0)
      → (place < length cs → Inside l n (get_or cs place 0) → ⊥) → Empty ≡ exact cs l n
  missing before after none =
      let away : Shares (Has cs) l n → ⊥ = λ s.
      ⊎_elim
      (λ h. let x = before s.1.0 h in let y = first-least l n (get_or cs s.1.0 0) (subst (Inside l n) (sym s.1.2) s.2) in omega arith)
      (λ h. none (omega arith) (between l n (get_or cs place 0) (get_or cs s.1.0 0) (after place (omega arith) (omega arith)) (in_order cs rising place s.1.0 0 h s.1.1) (subst (Inside l n) (sym s.1.2) s.2)))
      (cases_lt s.1.0 place) in
      let f : occupied cs l n ≡ false = ⊎_elim (λ t. absurd (away ((decides_occupied cs l n).0 t))) (λ e. e) (cases_Bool (occupied cs l n)) in
      sym (tested_on (occupied cs) l n b ∙ cond-false (occupied cs l n) Occupied Empty f)

-- Counting the blocks of all levels in one pass over the cells.
use Rattle.std.proofs.Common.{◌≡◌, ℕ, zero, suc, ◌+◌, ◌-◌, ◌*◌, ◌/◌, ◌^◌, ◌<◌, ◌≤◌, cond, ltb, ◌⊎◌, Option, Some, None, List, [], ◌∷◌, length, get_or, drop, Bor, sym, refl, ap, ◌∙◌, subst, inl, inr, add-zero, arith}
use native.Mathlib.Nat.{div-eq_of_lt}
use Rattle.std.specs.declared.slice.Windows.{Windows}
use Rattle.std.specs.Slice.Iter.{windows_rest, windows_size, windows_steps}
use Rattle.std.proofs.lemmas.Iterator.{window_more}
use Rattle.std.proofs.lemmas.Option.{MatchOption-at_none}
use Rattle.std.proofs.lemmas.Bool.{cases_lt, lt-ltb, le-ltb}
use Rattle.tree.specs.Bitmaps.{Climbs, squares, upper, encode_t, encode_l}
use Rattle.tree.specs.Laws.{Listed}
use Rattle.tree.specs.Passes.{Joins, row}
use Rattle.tree.proofs.Walks.{up_one}
use Rattle.tree.proofs.Totals.{total}
use Rattle.tree.proofs.Passing.{Begun, begun_same, begun_new, begun_end}
use Rattle.tree.proofs.Whole.{count_next, count_root, lower_is}

-- ---- sums

total-add : (f g : ℕ → ℕ) (n : ℕ) → total (λ j. f j + g j) n ≡ total f n + total g n
unfolding total
total-add f g zero = refl
total-add f g (suc n) = let ih = total-add f g n in omega arith

-- a block begins on each level that lies more than one below the joining square
abbrev pub mark : ℕ → ℕ → ℕ
mark r l = cond (ltb (l + 1) r) 1 0

mark_one : (r l : ℕ) → l + 1 < r → mark r l ≡ 1
mark_one r l h = ap (λ b. cond b 1 0) (lt-ltb (l + 1) r h)

mark_none : (r l : ℕ) → r ≤ l + 1 → mark r l ≡ 0
mark_none r l h = ap (λ b. cond b 1 0) (le-ltb (l + 1) r h)

marks_all : (r n : ℕ) → n + 2 ≤ r → total (λ j. mark r (suc j)) n ≡ n
unfolding total
marks_all r zero h = refl
marks_all r (suc n) h = omega (arith, marks_all r n (omega arith), mark_one r (suc n) (omega arith))

marks_some : (r n : ℕ) → 2 ≤ r → r ≤ n + 2 → total (λ j. mark r (suc j)) n ≡ r - 2
unfolding total
marks_some r zero p h = omega arith
marks_some r (suc n) p h = go (marks_some r n p) (cases_lt (n + 2) r)
  where
    go : (r ≤ n + 2 → total (λ j. mark r (suc j)) n ≡ r - 2) → (n + 2 < r) ⊎ (r ≤ n + 2) → total (λ j. mark r (suc j)) n + mark r (suc n) ≡ r - 2
    go ih (inl lt) = omega (arith, marks_all r n (omega arith), mark_one r (suc n) (omega arith))
    go ih (inr le) = omega (arith, ih le, mark_none r (suc n) (omega arith))

marks_none : (r n : ℕ) → r ≤ 1 → total (λ j. mark r (suc j)) n ≡ 0
unfolding total
marks_none r zero h = refl
marks_none r (suc n) h = omega (arith, marks_none r n h, mark_none r (suc n) (omega arith))

-- ---- two cells

module _ (a c height r : ℕ) (joins : Joins a c height r) (small : a < 4 ^ height) (small' : c < 4 ^ height) where
  stay : (d : ℕ) → r + d ≤ height → a / 4 ^ (r + d) ≡ c / 4 ^ (r + d)
  stay zero h = go (cases_lt r height)
    where
      z : r + 0 ≡ r
      z = add-zero r

      go : (r < height) ⊎ (height ≤ r) → a / 4 ^ (r + 0) ≡ c / 4 ^ (r + 0)
      go (inl lt) = ap (λ x. a / 4 ^ x) z ∙ joins.same lt ∙ ap (λ x. c / 4 ^ x) (sym z)
      go (inr le) =
          let e : r + 0 ≡ height = omega (arith, joins.high) in
          ap (λ x. a / 4 ^ x) e ∙ div-eq_of_lt small ∙ sym (ap (λ x. c / 4 ^ x) e ∙ div-eq_of_lt small')
  stay (suc d) h =
      let e : r + suc d ≡ suc (r + d) = omega arith in
      ap (λ x. a / 4 ^ x) e ∙ sym (up_one a (r + d)) ∙ ap (λ x. x / 4) (stay d (omega arith)) ∙ up_one c (r + d) ∙ ap (λ x. c / 4 ^ x) (sym e)

  up_same : (l : ℕ) → l < height → r ≤ l + 1 → c / 4 ^ suc l ≡ a / 4 ^ suc l
  up_same l lt h =
      let e : r + (l + 1 - r) ≡ suc l = omega arith in sym (ap (λ x. a / 4 ^ x) (sym e) ∙ stay (l + 1 - r) (omega arith) ∙ ap (λ x. c / 4 ^ x) e)

  up_apart : (l : ℕ) → l + 1 < r → c / 4 ^ suc l ≡ a / 4 ^ suc l → ⊥
  up_apart l h e = joins.apart (suc l) (omega arith) (omega arith) (sym e)

-- ---- all levels

-- on each level so many blocks are begun by the first i cells
abbrev pub Passed : List ℕ → ℕ → ℕ → (ℕ → ℕ) → Type 0
Passed codes height i b = (l : ℕ) → l < height → Begun l codes i (b l)

pub record Tallied (codes : List ℕ) (height i upper-blocks lower-blocks : ℕ) : Type 0 where
  pub blocks : ℕ → ℕ
  pub passed : Passed codes height i blocks
  pub upper_is : upper-blocks ≡ total (λ j. blocks (suc j)) (height - 1)
  pub lower_blocks_are : lower-blocks ≡ blocks 0
  pub few : upper-blocks ≤ 15 * i
  pub few' : lower-blocks ≤ i

ones-total : (n : ℕ) → total (λ j. 1) n ≡ n
unfolding total
ones-total zero = refl
ones-total (suc n) = omega (arith, ones-total n)

tallied_start : (codes : List ℕ) (height : ℕ) → 0 < length codes → 0 < height → height ≤ 16 → Tallied codes height 1 (height - 1) 1
tallied_start codes height some p q = record {
  blocks = λ l. 1;
  passed = λ l lt. begun_same l codes 0 1 refl some refl;
  upper_is = sym (ones-total (height - 1));
  lower_blocks_are = refl;
  few = omega arith;
  few' = omega arith;
}

module _ (codes : List ℕ) (height i tb lb r : ℕ) (w : Tallied codes height i tb lb) (high : height ≤ 16) (from : 1 ≤ i) (within : i < length codes)
    (joins : Joins (get_or codes (i - 1) 0) (get_or codes i 0) height r) (small : (k : ℕ) → k < length codes → get_or codes k 0 < 4 ^ height) where
  passed_next : Passed codes height (i + 1) (λ l. w.blocks l + mark r l)
  passed_next l lt = go (cases_lt (l + 1) r)
    where
      go : (l + 1 < r) ⊎ (r ≤ l + 1) → Begun l codes (i + 1) (w.blocks l + mark r l)
      go (inl h) =
          subst (λ m. Begun l codes (i + 1) (w.blocks l + m)) (sym (mark_one r l h))
          (begun_new l codes i (w.blocks l) (w.passed l lt) within (up_apart (get_or codes (i - 1) 0) (get_or codes i 0) height r joins (small (i - 1) (omega arith)) (small i within) l h))
      go (inr h) =
          let z : w.blocks l ≡ w.blocks l + mark r l = omega (arith, mark_none r l h) in
          subst (λ m. Begun l codes (i + 1) m) z
          (begun_same l codes i (w.blocks l) (w.passed l lt) within (up_same (get_or codes (i - 1) 0) (get_or codes i 0) height r joins (small (i - 1) (omega arith)) (small i within) l lt h))

  more : (s : ℕ) → total (λ j. mark r (suc j)) (height - 1) ≡ s → tb + s ≡ total (λ j. w.blocks (suc j) + mark r (suc j)) (height - 1)
  more s e = omega (arith, w.upper_is, e, total-add (λ j. w.blocks (suc j)) (λ j. mark r (suc j)) (height - 1))

  tallied_apart : 1 < r → Tallied codes height (i + 1) (tb + (r - 2)) (lb + 1)
  tallied_apart h = record {
    blocks = λ l. w.blocks l + mark r l;
    passed = passed_next;
    upper_is = more (r - 2) (marks_some r (height - 1) (omega arith) (omega (arith, joins.high)));
    lower_blocks_are = omega (arith, w.lower_blocks_are, mark_one r 0 (omega arith));
    few = omega (arith, w.few, joins.high);
    few' = omega (arith, w.few');
  }

  tallied_same : r ≤ 1 → Tallied codes height (i + 1) tb lb
  tallied_same h = record {
    blocks = λ l. w.blocks l + mark r l;
    passed = passed_next;
    upper_is = sym (add-zero tb) ∙ more 0 (marks_none r (height - 1) h);
    lower_blocks_are = omega (arith, w.lower_blocks_are, mark_none r 0 (omega arith));
    few = omega (arith, w.few);
    few' = omega (arith, w.few');
  }

-- ---- the end

module _ (c : ℕ) (cs : List ℕ) (climbs : Climbs (c ∷ cs)) (b : ℕ → ℕ) (height : ℕ) (ends : (l : ℕ) → l < height → 4 * b l ≡ length (row l (c ∷ cs))) where
  rows : (k : ℕ) → k < height → 4 * total (λ j. b (suc j)) k ≡ length (upper k (squares (suc k) (c ∷ cs)) (c ∷ cs))
  unfolding upper total
  rows zero h = refl
  rows (suc k) h = omega (arith, rows k (omega arith), ends (suc k) h, count_next c cs climbs k)

tallied_end : (codes : List ℕ) (height i tb lb : ℕ) → 0 < length codes → 0 < height → Listed height codes → Tallied codes height i tb lb → length codes ≤ i
    → (4 * tb ≡ length (encode_t height codes)) × (4 * lb ≡ length (encode_l height codes))
tallied_end [] height i tb lb some high h w le = absurd (omega arith)
tallied_end (c ∷ cs) zero i tb lb some high h w le = absurd (omega arith)
tallied_end (c ∷ cs) (suc k) i tb lb some high h w le =
    let codes = c ∷ cs in
    let ends : (l : ℕ) → l < suc k → 4 * w.blocks l ≡ length (row l codes) = λ l lt. begun_end l codes i (w.blocks l) (w.passed l lt) le in
    let e : suc k - 1 ≡ k = omega arith in
    let u = w.upper_is ∙ ap (total (λ j. w.blocks (suc j))) e in (
      omega (arith, u, rows c cs h.0 w.blocks (suc k) ends k (omega arith), ap length (count_root c cs h.0 k h.1)),
      omega (arith, w.lower_blocks_are, ends 0 (omega arith), ap length (lower_is codes (suc k) some high h)),
    )

-- ---- over pairs of neighbors

-- these pairs are left, and the codes before the last of a pair that was taken are counted
pub record Paired (codes : List ℕ) (height : ℕ) (pairs : Windows ℕ) (upper-blocks lower-blocks : ℕ) : Type 0 where
  pub two : windows_size pairs ≡ 2
  pub within : length (windows_rest pairs) ≤ length codes
  pub left : windows_rest pairs ≡ drop (length codes - length (windows_rest pairs)) codes
  pub tallied : Tallied codes height (length codes - length (windows_rest pairs) + 1) upper-blocks lower-blocks

pub paired_start : (codes : List ℕ) (height : ℕ) (pairs : Windows ℕ) → windows_rest pairs ≡ codes → windows_size pairs ≡ 2 → 0 < length codes → 0 < height → height ≤ 16
    → Paired codes height pairs (height - 1) 1
paired_start codes height pairs e two some p q =
    let n : length (windows_rest pairs) ≡ length codes = ap length e in
    let z : length codes - length (windows_rest pairs) ≡ 0 = omega arith in
    record {
      two = two;
      within = omega arith;
      left = e ∙ sym (ap (λ k. drop k codes) z);
      tallied = subst (λ k. Tallied codes height (k + 1) (height - 1) 1) (sym z) (tallied_start codes height some p q);
    }

module _ (codes : List ℕ) (height tb lb r : ℕ) (s t : Windows ℕ) (w : Paired codes height s tb lb) (o : Option (Bor (List ℕ))) (pair : Bor (List ℕ)) (is : o ≡ Some pair) (steps : windows_steps s o t)
    (high : height ≤ 16) (small : (k : ℕ) → k < length codes → get_or codes k 0 < 4 ^ height) (joins : Joins (get_or pair.now 0 0) (get_or pair.now 1 0) height r) where
  abbrev i : ℕ
  i = length codes - length (windows_rest s) + 1

  moved : (length (windows_rest t) + 1 ≡ length (windows_rest s)) × (windows_rest t ≡ drop (length codes - length (windows_rest t)) codes)
      × (2 ≤ length (windows_rest s)) × ((k : ℕ) → k < 2 → get_or pair.now k 0 ≡ get_or codes (length codes - length (windows_rest s) + k) 0)
  moved =
      let m = window_more codes s t o pair is steps (omega (arith, w.two)) w.within w.left in
      (m.0, m.1, omega (arith, w.two, m.2), λ k h. m.3 k 0 (omega (arith, w.two)))

  neighbors : Joins (get_or codes (i - 1) 0) (get_or codes i 0) height r
  neighbors =
      let from : i - 1 ≡ length codes - length (windows_rest s) + 0 = omega arith in
      let a : get_or codes (i - 1) 0 ≡ get_or pair.now 0 0 = ap (λ k. get_or codes k 0) from ∙ sym (moved.3 0 (omega arith)) in
      let b : get_or codes i 0 ≡ get_or pair.now 1 0 = sym (moved.3 1 (omega arith)) in
      rw (a, b) joins

  further : (upper-blocks lower-blocks : ℕ) → Tallied codes height (i + 1) upper-blocks lower-blocks → Paired codes height t upper-blocks lower-blocks
  further upper-blocks lower-blocks v =
      let e : i + 1 ≡ length codes - length (windows_rest t) + 1 = omega (arith, moved.0, w.within) in
      record {
        two = steps.0 ∙ w.two;
        within = omega (arith, moved.0, w.within);
        left = moved.1;
        tallied = subst (λ k. Tallied codes height k upper-blocks lower-blocks) e v;
      }

  pub paired_apart : 1 < r → Paired codes height t (tb + (r - 2)) (lb + 1)
  paired_apart h = further (tb + (r - 2)) (lb + 1) (tallied_apart codes height i tb lb r w.tallied high (omega arith) (omega (arith, moved.2, w.within)) neighbors small h)

  pub paired_same : r ≤ 1 → Paired codes height t tb lb
  paired_same h = further tb lb (tallied_same codes height i tb lb r w.tallied high (omega arith) (omega (arith, moved.2, w.within)) neighbors small h)

-- few blocks, while pairs are left and when none is
pub paired_few : (codes : List ℕ) (height : ℕ) (pairs : Windows ℕ) (tb lb : ℕ) → Paired codes height pairs tb lb → (tb ≤ 15 * length codes + 15) × (lb ≤ length codes + 1)
paired_few codes height pairs tb lb w = (omega (arith, w.tallied.few), omega (arith, w.tallied.few'))

pub paired_end : (codes : List ℕ) (height : ℕ) (s t : Windows ℕ) (tb lb : ℕ) → 0 < length codes → 0 < height → Listed height codes → Paired codes height s tb lb
    → (o : Option (Bor (List ℕ))) → o ≡ None → windows_steps s o t → (4 * tb ≡ length (encode_t height codes)) × (4 * lb ≡ length (encode_l height codes))
paired_end codes height s t tb lb some high h w o is steps =
    let none = MatchOption-at_none _ _ is steps.1 in
    tallied_end codes height (length codes - length (windows_rest s) + 1) tb lb some high h w.tallied (omega (arith, w.two, w.within, none.0))

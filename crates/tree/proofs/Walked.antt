-- A pass over the cells by pairs of neighbours.
use Rattle.std.proofs.Common.{◌≡◌, ℕ, suc, ◌+◌, ◌-◌, ◌*◌, ◌/◌, ◌^◌, ◌<◌, ◌≤◌, Option, Some, None, List, length, get_or, drop, Bor, sym, ap, ◌∙◌, subst, arith}
use Rattle.std.specs.declared.slice.Windows.{Windows}
use Rattle.std.specs.Slice.Iter.{windows_rest, windows_size, windows_steps}
use Rattle.std.proofs.lemmas.Iterator.{window_more}
use Rattle.std.proofs.lemmas.Option.{MatchOption-at_none}
use Rattle.tree.specs.Passes.{nibble, Put, row}
use Rattle.tree.proofs.Passing.{with_mark, Pass, pass_start, pass_room, pass_same, pass_apart, pass_end, more_small}

-- these pairs are left, and the cells before the first of the next pair are written
pub record Walked (l : ℕ) (codes xs : List ℕ) (start : ℕ) (pairs : Windows ℕ) (block count : ℕ) (ys : List ℕ) : Type 0 where
  pub two : windows_size pairs ≡ 2
  pub some : 0 < length (windows_rest pairs)
  pub within : length (windows_rest pairs) ≤ length codes
  pub left : windows_rest pairs ≡ drop (length codes - length (windows_rest pairs)) codes
  pub pass : Pass l codes xs start (length codes - length (windows_rest pairs)) block count ys

pub walked_start : (l : ℕ) (codes xs : List ℕ) (start : ℕ) (pairs : Windows ℕ) → windows_rest pairs ≡ codes → windows_size pairs ≡ 2 → 0 < length codes → Walked l codes xs start pairs 0 start xs
walked_start l codes xs start pairs e two some =
    let n : length (windows_rest pairs) ≡ length codes = ap length e in
    let z : length codes - length (windows_rest pairs) ≡ 0 = omega arith in
    record {
      two = two;
      some = omega arith;
      within = omega arith;
      left = e ∙ sym (ap (λ k. drop k codes) z);
      pass = subst (λ k. Pass l codes xs start k 0 start xs) (sym z) (pass_start l codes xs start);
    }

module _ (l : ℕ) (codes xs : List ℕ) (start block count : ℕ) (ys : List ℕ) (s : Windows ℕ) (w : Walked l codes xs start s block count ys) where
  abbrev i : ℕ
  i = length codes - length (windows_rest s)

  pub walked_room : 4 * count + 4 ≤ 4 * start + length (row l codes)
  walked_room = pass_room l codes xs start i block count ys w.pass (omega (arith, w.some, w.within))

  pub walked_small : (c : ℕ) → get_or codes i 0 ≡ c → with_mark l block c < 16
  walked_small c e = subst (λ c. with_mark l block c < 16) e (more_small l codes xs start i block count ys w.pass (omega (arith, w.some, w.within)))

  -- ---- where a pair is left
  module _ (t : Windows ℕ) (o : Option (Bor (List ℕ))) (pair : Bor (List ℕ)) (is : o ≡ Some pair) (steps : windows_steps s o t) where
    moved : (length (windows_rest t) + 1 ≡ length (windows_rest s)) × (windows_rest t ≡ drop (length codes - length (windows_rest t)) codes)
        × (2 ≤ length (windows_rest s)) × ((k : ℕ) → k < 2 → get_or pair.now k 0 ≡ get_or codes (i + k) 0)
    moved =
        let m = window_more codes s t o pair is steps (omega (arith, w.two)) w.within w.left in
        (m.0, m.1, omega (arith, w.two, m.2), λ k h. m.3 k 0 (omega (arith, w.two)))

    pub first_is : get_or codes i 0 ≡ get_or pair.now 0 0
    first_is = let n : i ≡ i + 0 = omega arith in ap (λ k. get_or codes k 0) n ∙ sym (moved.3 0 (omega arith))

    second_is : get_or codes (i + 1) 0 ≡ get_or pair.now 1 0
    second_is = sym (moved.3 1 (omega arith))

    further : (b n : ℕ) (zs : List ℕ) → Pass l codes xs start (i + 1) b n zs → Walked l codes xs start t b n zs
    further b n zs p =
        let e : i + 1 ≡ length codes - length (windows_rest t) = omega (arith, moved.0, w.within, moved.2) in
        record {
          two = steps.0 ∙ w.two;
          some = omega (arith, moved.0, moved.2);
          within = omega (arith, moved.0, w.within);
          left = moved.1;
          pass = subst (λ k. Pass l codes xs start k b n zs) e p;
        }

    pub walked_same : get_or pair.now 0 0 / 4 ^ suc l ≡ get_or pair.now 1 0 / 4 ^ suc l → Walked l codes xs start t (with_mark l block (get_or pair.now 0 0)) count ys
    walked_same e =
        let same = ap (λ c. c / 4 ^ suc l) first_is ∙ e ∙ sym (ap (λ c. c / 4 ^ suc l) second_is) in
        subst (λ c. Walked l codes xs start t (with_mark l block c) count ys) first_is
        (further (with_mark l block (get_or codes i 0)) count ys (pass_same l codes xs start i block count ys w.pass (omega (arith, w.some, w.within)) same))

    pub walked_apart : (zs : List ℕ) → (get_or pair.now 0 0 / 4 ^ suc l ≡ get_or pair.now 1 0 / 4 ^ suc l → ⊥) → Put ys zs count (count + 1) (nibble (with_mark l block (get_or pair.now 0 0))) → Walked l codes xs start t 0 (count + 1) zs
    walked_apart zs ne put =
        let differ : get_or codes i 0 / 4 ^ suc l ≡ get_or codes (i + 1) 0 / 4 ^ suc l → ⊥ = λ e. ne (sym (ap (λ c. c / 4 ^ suc l) first_is) ∙ e ∙ ap (λ c. c / 4 ^ suc l) second_is) in
        further 0 (count + 1) zs
        (pass_apart l codes xs start i block count ys w.pass (omega (arith, w.some, w.within)) zs (omega (arith, w.within, moved.2)) differ (subst (λ c. Put ys zs count (count + 1) (nibble (with_mark l block c))) (sym first_is) put))

  -- ---- where none is left
  module _ (t : Windows ℕ) (o : Option (Bor (List ℕ))) (is : o ≡ None) (steps : windows_steps s o t) where
    pub last_is : get_or codes i 0 ≡ get_or codes (length codes - 1) 0
    last_is =
        let none = MatchOption-at_none _ _ is steps.1 in
        let e : i ≡ length codes - 1 = omega (arith, w.two, w.some, w.within, none.0) in
        ap (λ k. get_or codes k 0) e

    pub walked_end : (zs : List ℕ) → Put ys zs count (count + 1) (nibble (with_mark l block (get_or codes (length codes - 1) 0))) → Put xs zs start (count + 1) (row l codes)
    walked_end zs put =
        let none = MatchOption-at_none _ _ is steps.1 in
        pass_end l codes xs start i block count ys w.pass (omega (arith, w.some, w.within)) zs (omega (arith, w.two, w.within, none.0)) (subst (λ c. Put ys zs count (count + 1) (nibble (with_mark l block c))) (sym last_is) put)

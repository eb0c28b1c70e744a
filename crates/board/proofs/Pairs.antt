-- What the windows of two numbers give: each number of a list with the next.
use Rattle.std.proofs.Common.{◌≡◌, ℕ, zero, suc, ◌+◌, ◌-◌, ◌<◌, ◌≤◌, List, [], ◌∷◌, length, take, drop, slice_index, slice_index_or, Bor, refl, sym, ap, ap₂, subst, ◌∙◌, arith}
use Rattle.std.proofs.lemmas.Iterator.{YieldsList}
use Rattle.std.proofs.lemmas.Iterator.Splits.{YieldsList-from_shown_while}
use Rattle.std.specs.List.{AllWithin, HoldsAt}
use Rattle.std.specs.Slice.Iter.{windows_rest, windows_size, windows_steps}
use Rattle.board.specs.Lists.{Rising}

abbrev pub pairs : List ℕ → List (ℕ × ℕ)
pairs [] = []
pairs (x ∷ []) = []
pairs (x ∷ y ∷ xs) = (x, y) ∷ pairs (y ∷ xs)

pub length-pairs : (xs : List ℕ) → length (pairs xs) ≡ length xs - 1
length-pairs [] = refl
length-pairs (x ∷ []) = refl
length-pairs (x ∷ y ∷ xs) = let e = length-pairs (y ∷ xs) in omega arith

next : (k : ℕ) → suc (k + 1) ≡ suc k + 1
next k = omega arith

pub pair-at : (xs : List ℕ) (k : ℕ) (d : ℕ × ℕ) → k < length (pairs xs) → slice_index_or (pairs xs) k d ≡ (slice_index xs k, slice_index xs (k + 1))
pair-at [] k d l = absurd (omega arith)
pair-at (x ∷ []) k d l = absurd (omega arith)
pair-at (x ∷ y ∷ xs) zero d l = refl
pair-at (x ∷ y ∷ xs) (suc k) d l = pair-at (y ∷ xs) k d (omega arith) ∙ ap (λ n. (slice_index (y ∷ xs) k, slice_index (x ∷ y ∷ xs) n)) (next k)

-- a window of two numbers, as a pair
abbrev pub both : Bor (List ℕ) → ℕ × ℕ
both w = (slice_index w.now 0, slice_index w.now 1)

one_off : (xs w rest : List ℕ) → 2 ≤ length xs → w ≡ take 2 xs → rest ≡ drop 1 xs → pairs xs ≡ (slice_index w 0, slice_index w 1) ∷ pairs rest
one_off [] w rest l e f = absurd (omega arith)
one_off (x ∷ []) w rest l e f = absurd (omega arith)
one_off (x ∷ y ∷ xs) w rest l e f = ap₂ (λ (v r : List ℕ). (slice_index v 0, slice_index v 1) ∷ pairs r) (sym e) (sym f)

none_left : (xs : List ℕ) → length xs < 2 → length (pairs xs) ≡ 0
none_left xs l = let e = length-pairs xs in omega arith

pub YieldsList-from_pairs : {s : _} (xs : List ℕ) → windows_rest s ≡ xs → windows_size s ≡ 2 → YieldsList windows_steps both s (pairs xs)
YieldsList-from_pairs {s} xs e two =
    subst (λ l. YieldsList windows_steps both s (pairs l)) e
    (YieldsList-from_shown_while windows_steps both (λ t. pairs (windows_rest t)) (λ t. windows_size t ≡ 2)
    (λ t u p h. none_left (windows_rest t) (omega (arith, h.1.0)))
    (λ t x u p h. (h.0 ∙ p, one_off (windows_rest t) x.now (windows_rest u) (omega (arith, h.1.0)) (h.1.1 ∙ ap (λ n. take n (windows_rest t)) p) h.1.2))
    s two)

-- the first i pairs rise
pub rising_pairs : (cs : List ℕ) (i : ℕ) → i ≤ length (pairs cs) → AllWithin (λ p. p.0 < p.1) (pairs cs) 0 i → Rising cs (i + 1)
rising_pairs cs i l all = λ k b.
    let d : ℕ × ℕ = (0, 0) in
    subst (λ (p : ℕ × ℕ). p.0 < p.1) (pair-at cs k d (omega arith)) (all k d (omega arith) (omega arith))

-- the pair at i is the first that does not rise
pub falls_at : (cs : List ℕ) (i : ℕ) → i < length (pairs cs) → HoldsAt (λ p. p.1 ≤ p.0) (pairs cs) i → slice_index cs (i + 1) ≤ slice_index cs i
falls_at cs i l falls = let d : ℕ × ℕ = (0, 0) in subst (λ (p : ℕ × ℕ). p.1 ≤ p.0) (pair-at cs i d l) (falls d)

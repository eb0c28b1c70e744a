-- The bits of bytes, and how many are 1.
use Rattle.std.proofs.Common.{◌≡◌, ℕ, zero, suc, ◌+◌, ◌-◌, ◌*◌, ◌/◌, ◌%◌, ◌^◌, ◌<◌, ◌≤◌, Bool, true, false, cond, eqb, ◌⊎◌, List, [], ◌∷◌, length, get_or, take, drop, sym, refl, ap, ◌∙◌, ap₂, add-zero, add_assoc, mod-lt, mod-eq_of_lt, add_comm, pow-suc, arith, pow_pos, inl, inr, length-drop}
use native.Mathlib.Nat.{div-div-eq-div-mul, div-eq_of_lt, mod-one}
use lib.Pow.{mod-pow-add}
use lib.Count as count
use Rattle.std.specs.Int.{from_le_bytes, w64}
use Rattle.std.specs.List.{slice_range, sum_by}
use Rattle.std.specs.Simd.{first_chunks}
use Rattle.std.proofs.lemmas.List.{get_or-drop, get_or-take, get_or_past, length-take, length-take-le}
use Rattle.std.proofs.lemmas.List.Sums.{sum_by-cons}
use Rattle.std.proofs.lemmas.List.FromFn.{length-map-range_with_len, get_or-map-range_with_len, take-map-range_with_len, map-range_with_len_more}
use Rattle.std.proofs.lemmas.Bool.{cases_lt, eqb-false}
use Rattle.tree.specs.Bitmaps.{bit, bits, ones}
use lib.Bits.{bit_and}
use Rattle.std.proofs.lemmas.Nat.{one_shl, and_mask}
use Rattle.tree.specs.Reader.{ones_before, Spared}
use Rattle.tree.proofs.Walks.{ones-append}

pub length-bits : (bytes : List ℕ) (n : ℕ) → length (bits bytes n) ≡ n
length-bits bytes n = length-map-range_with_len (bit bytes) 0 n

pub get_d_bits : (bytes : List ℕ) (n p : ℕ) (d : Bool) → p < n → get_or (bits bytes n) p d ≡ bit bytes p
get_d_bits bytes n p d h = get_or-map-range_with_len (bit bytes) 0 n p p d h (omega arith)

pub take-bits : (bytes : List ℕ) (n m : ℕ) → n ≤ m → take n (bits bytes m) ≡ bits bytes n
take-bits bytes n m h = take-map-range_with_len (bit bytes) 0 m n h

-- a digit as a bit
digit : (x : ℕ) → x < 2 → cond (eqb x 1) 1 0 ≡ x
digit zero h = refl
digit (suc zero) h = refl
digit (suc (suc x)) h = absurd (omega arith)

pub ones_before_more : (bytes : List ℕ) (n : ℕ) → ones_before bytes (n + 1) ≡ ones_before bytes n + (get_or bytes (n / 8) 0 / 2 ^ (n % 8) % 2)
ones_before_more bytes n =
    let x = get_or bytes (n / 8) 0 / 2 ^ (n % 8) % 2 in
    ap ones (map-range_with_len_more (bit bytes) 0 n n (omega arith)) ∙ ones-append (bits bytes n) (bit bytes n ∷ [])
    ∙ ap (λ y. ones_before bytes n + y) (add-zero (cond (eqb x 1) 1 0) ∙ digit x (omega arith))

-- one digit
ones-digit : (x : ℕ) → x < 2 → count.ones x ≡ x
unfolding count.ones
ones-digit zero h = refl
ones-digit (suc zero) h = refl
ones-digit (suc (suc x)) h = absurd (omega arith)

ones_digits_more : (x r : ℕ) → count.ones (x % 2 ^ suc r) ≡ count.ones (x % 2 ^ r) + (x / 2 ^ r % 2)
ones_digits_more x r =
    let e : x % 2 ^ suc r ≡ (x / 2 ^ r % 2 ^ 1) * 2 ^ r + x % 2 ^ r = ap (λ k. x % 2 ^ k) (omega arith) ∙ mod-pow-add x 1 r in
    let d : x / 2 ^ r % 2 ^ 1 < 2 = omega arith in
    let c : count.ones ((x / 2 ^ r % 2 ^ 1) * 2 ^ r + x % 2 ^ r) ≡ count.ones (x / 2 ^ r % 2 ^ 1) + count.ones (x % 2 ^ r) =
    count.ones_cat r (x / 2 ^ r % 2 ^ 1) (x % 2 ^ r) (mod-lt x (pow_pos r)) in
    ap count.ones e ∙ c ∙ ap (λ y. y + count.ones (x % 2 ^ r)) (ones-digit (x / 2 ^ r % 2 ^ 1) d) ∙ omega arith

-- whole bytes, and some bits of the next
pub ones-part : (bytes : List ℕ) (k r : ℕ) → r ≤ 8 → ones_before bytes (8 * k + r) ≡ ones_before bytes (8 * k) + count.ones (get_or bytes k 0 % 2 ^ r)
ones-part bytes k zero h =
    ap (ones_before bytes) (add-zero (8 * k))
    ∙ sym (ap (λ x. ones_before bytes (8 * k) + count.ones x) (mod-one (get_or bytes k 0)) ∙ ap (λ x. ones_before bytes (8 * k) + x) (ones-digit 0 (omega arith)) ∙ add-zero (ones_before bytes (8 * k)))
ones-part bytes k (suc r) h =
    let x = get_or bytes k 0 in
    let n : 8 * k + suc r ≡ 8 * k + r + 1 = omega arith in
    let q : (8 * k + r) / 8 ≡ k = omega arith in
    let m : (8 * k + r) % 8 ≡ r = omega arith in
    let ih = ones-part bytes k r (omega arith) in
    let more = ones_before_more bytes (8 * k + r) in
    let here : get_or bytes ((8 * k + r) / 8) 0 / 2 ^ ((8 * k + r) % 8) % 2 ≡ x / 2 ^ r % 2 = ap₂ (λ a b. get_or bytes a 0 / 2 ^ b % 2) q m in
    ap (ones_before bytes) n ∙ more ∙ ap₂ (λ a b. a + b) ih here
    ∙ add_assoc (ones_before bytes (8 * k)) (count.ones (x % 2 ^ r)) (x / 2 ^ r % 2) ∙ ap (λ y. ones_before bytes (8 * k) + y) (sym (ones_digits_more x r))

ones-byte : (bytes : List ℕ) (k : ℕ) → get_or bytes k 0 < 256 → ones_before bytes (8 * (k + 1)) ≡ ones_before bytes (8 * k) + count.ones (get_or bytes k 0)
ones-byte bytes k h =
    let e : 8 * (k + 1) ≡ 8 * k + 8 = omega arith in
    ap (ones_before bytes) e ∙ ones-part bytes k 8 (omega arith) ∙ ap (λ x. ones_before bytes (8 * k) + count.ones x) (mod-eq_of_lt h)

-- the number of n bytes from byte k on, the first of them lowest
abbrev number : List ℕ → ℕ → ℕ → ℕ
number bytes k zero = 0
number bytes k (suc n) = get_or bytes k 0 + 256 * number bytes (suc k) n

-- a byte, and what stands above it, are counted apart
ones_low : (low high : ℕ) → low < 256 → count.ones (low + 256 * high) ≡ count.ones low + count.ones high
ones_low low high h =
    let e : low + 256 * high ≡ high * 2 ^ 8 + low = omega arith in
    ap count.ones e ∙ count.ones_cat 8 high low h ∙ add_comm (count.ones high) (count.ones low)

-- the bytes are numbers below 256
abbrev pub Small : List ℕ → Type 0
Small bytes = (j : ℕ) → get_or bytes j 0 < 256

-- so the ones of that number are the ones of its bytes
ones-number : (bytes : List ℕ) (k n : ℕ) → Small bytes → ones_before bytes (8 * k) + count.ones (number bytes k n) ≡ ones_before bytes (8 * (k + n))
ones-number bytes k zero small =
    let e : 8 * k ≡ 8 * (k + 0) = omega arith in
    omega (arith, ones-digit 0 (omega arith), ap (ones_before bytes) e)
ones-number bytes k (suc n) small =
    let a : 8 * suc k ≡ 8 * (k + 1) = omega arith in
    let b : 8 * (suc k + n) ≡ 8 * (k + suc n) = omega arith in
    omega (
      arith,
      ones_low (get_or bytes k 0) (number bytes (suc k) n) (small k),
      ones-byte bytes k (small k),
      ones-number bytes (suc k) n small,
      ap (ones_before bytes) a,
      ap (ones_before bytes) b,
    )

-- so are those of a word
ones-word : (bytes : List ℕ) → Small bytes → count.ones (from_le_bytes w64 bytes) ≡ ones_before bytes 64
ones-word bytes small =
    let e : from_le_bytes w64 bytes ≡ number bytes 0 8 = omega arith in
    omega (arith, ap count.ones e, ones-number bytes 0 8 small)

small-drop : (k : ℕ) (bytes : List ℕ) → Small bytes → Small (drop k bytes)
small-drop k bytes small j = omega (arith, get_or-drop k bytes j 0, small (k + j))

-- the first k bytes, and n bytes behind them
ones-drop : (bytes : List ℕ) (k n : ℕ) → ones_before bytes (8 * k) + ones_before (drop k bytes) (8 * n) ≡ ones_before bytes (8 * (k + n))
ones-drop bytes k zero = let e : 8 * k ≡ 8 * (k + 0) = omega arith in omega (arith, ap (ones_before bytes) e)
ones-drop bytes k (suc n) =
    let a : 8 * suc n ≡ 8 * n + 8 = omega arith in
    let b : 8 * (k + suc n) ≡ 8 * (k + n) + 8 = omega arith in
    omega (
      arith,
      ap (ones_before (drop k bytes)) a,
      ap (ones_before bytes) b,
      ones-drop bytes k n,
      ones-part (drop k bytes) n 8 (omega arith),
      ones-part bytes (k + n) 8 (omega arith),
      ap (λ x. count.ones (x % 2 ^ 8)) (get_or-drop k bytes n 0),
    )

-- the first n of the first m bytes
ones-take : (bytes : List ℕ) (m n : ℕ) → n ≤ m → ones_before (take m bytes) (8 * n) ≡ ones_before bytes (8 * n)
ones-take bytes m zero h = refl
ones-take bytes m (suc n) h =
    let e : 8 * suc n ≡ 8 * n + 8 = omega arith in
    omega (
      arith,
      ap (ones_before (take m bytes)) e,
      ap (ones_before bytes) e,
      ones-take bytes m n (omega arith),
      ones-part (take m bytes) n 8 (omega arith),
      ones-part bytes n 8 (omega arith),
      ap (λ x. count.ones (x % 2 ^ 8)) (get_or-take m bytes n 0 (omega arith)),
    )

small-take : (m : ℕ) (bytes : List ℕ) → Small bytes → Small (take m bytes)
small-take m bytes small j = go (cases_lt j m)
  where
    go : (j < m) ⊎ (m ≤ j) → get_or (take m bytes) j 0 < 256
    go (inl h) = omega (arith, get_or-take m bytes j 0 h, small j)
    go (inr h) = omega (arith, get_or_past (take m bytes) j 0 (omega (arith, length-take m bytes)))

-- a part of the bytes
pub ones-range : (bytes : List ℕ) (a b : ℕ) → a ≤ b → b ≤ length bytes
    → ones_before bytes (8 * a) + ones_before (slice_range bytes a b) (8 * length (slice_range bytes a b)) ≡ ones_before bytes (8 * b)
ones-range bytes a b h k =
    let l : length (slice_range bytes a b) ≡ b - a = length-take-le (b - a) (drop a bytes) (omega (arith, length-drop a bytes)) in
    let e : 8 * (a + (b - a)) ≡ 8 * b = omega arith in
    omega (
      arith,
      ap (λ n. ones_before (slice_range bytes a b) (8 * n)) l,
      ones-take (drop a bytes) (b - a) (b - a) (omega arith),
      ones-drop bytes a (b - a),
      ap (ones_before bytes) e,
    )

-- the sum over words, and the sum over bytes
ones-words : (n : ℕ) (bytes : List ℕ) → Small bytes → sum_by (λ w. count.ones (from_le_bytes w64 w)) (first_chunks 8 n bytes) ≡ ones_before bytes (8 * (8 * n))
ones-words zero bytes small = refl
ones-words (suc n) bytes small =
    let e : 8 * (8 + 8 * n) ≡ 8 * (8 * suc n) = omega arith in
    omega (
      arith,
      sum_by-cons (λ w. count.ones (from_le_bytes w64 w)) (take 8 bytes) (first_chunks 8 n (drop 8 bytes)),
      ones-word (take 8 bytes) (small-take 8 bytes small),
      ones-take bytes 8 8 (omega arith),
      ones-words n (drop 8 bytes) (small-drop 8 bytes small),
      ones-drop bytes 8 (8 * n),
      ap (ones_before bytes) e,
    )

ones-each : (bytes : List ℕ) → Small bytes → sum_by count.ones bytes ≡ ones_before bytes (8 * length bytes)
ones-each [] small = refl
ones-each (x ∷ xs) small =
    let e : 8 * (1 + length xs) ≡ 8 * length (x ∷ xs) = omega arith in
    omega (
      arith,
      sum_by-cons count.ones x xs,
      ones-byte (x ∷ xs) 0 (small 0),
      ones-each xs (small-drop 1 (x ∷ xs) small),
      ones-drop (x ∷ xs) 1 (length xs),
      ap (ones_before (x ∷ xs)) e,
    )

-- by words, and then by the bytes left
pub ones-split : (bytes : List ℕ) (n : ℕ) → 8 * n ≤ length bytes → Small bytes
    → sum_by (λ w. count.ones (from_le_bytes w64 w)) (first_chunks 8 n bytes) + sum_by count.ones (drop (n * 8) bytes) ≡ ones_before bytes (8 * length bytes)
ones-split bytes n h small =
    let e : 8 * (8 * n + length (drop (8 * n) bytes)) ≡ 8 * length bytes = omega (arith, length-drop (8 * n) bytes) in
    let d : n * 8 ≡ 8 * n = omega arith in
    omega (
      arith,
      ap (λ k. sum_by count.ones (drop k bytes)) d,
      ones-words n bytes small,
      ones-each (drop (8 * n) bytes) (small-drop (8 * n) bytes small),
      ones-drop bytes (8 * n) (length (drop (8 * n) bytes)),
      ap (ones_before bytes) e,
    )

ones_few : (bs : List Bool) → ones bs ≤ length bs
ones_few [] = omega arith
ones_few (true ∷ bs) = let h = ones_few bs in omega arith
ones_few (false ∷ bs) = let h = ones_few bs in omega arith

pub ones_before_le : (bytes : List ℕ) (n : ℕ) → ones_before bytes n ≤ n
ones_before_le bytes n = omega (arith, ones_few (bits bytes n), length-bits bytes n)

pub ones_before_mono : (bytes : List ℕ) (a d : ℕ) → ones_before bytes a ≤ ones_before bytes (a + d)
ones_before_mono bytes a zero = let e : a + 0 ≡ a = omega arith in omega (arith, ap (ones_before bytes) e)
ones_before_mono bytes a (suc d) =
    let e : a + suc d ≡ a + d + 1 = omega arith in
    omega (arith, ap (ones_before bytes) e, ones_before_more bytes (a + d), ones_before_mono bytes a d)

pub ones_before_le_mono : (bytes : List ℕ) (a b : ℕ) → a ≤ b → ones_before bytes a ≤ ones_before bytes b
ones_before_le_mono bytes a b h = let e : a + (b - a) ≡ b = omega arith in omega (arith, ap (ones_before bytes) e, ones_before_mono bytes a (b - a))

-- the byte that the first n bits end in
module _ (bytes : List ℕ) (n : ℕ) where
  pub part_some : ones_before bytes (8 * (n / 8)) + count.ones (bit_and (get_or bytes (n / 8) 0) ((1 * 2 ^ (n % 8)) % 256 - 1)) ≡ ones_before bytes n
  part_some =
      let r = n % 8 in
      let m : (1 * 2 ^ r) % 256 ≡ 2 ^ r = one_shl r 8 (omega arith) in
      let a : bit_and (get_or bytes (n / 8) 0) ((1 * 2 ^ r) % 256 - 1) ≡ get_or bytes (n / 8) 0 % 2 ^ r = ap (λ x. bit_and (get_or bytes (n / 8) 0) (x - 1)) m ∙ and_mask (get_or bytes (n / 8) 0) r in
      let e : 8 * (n / 8) + r ≡ n = omega arith in
      ap (λ y. ones_before bytes (8 * (n / 8)) + count.ones y) a ∙ sym (ones-part bytes (n / 8) r (omega arith)) ∙ ap (ones_before bytes) e

-- spare bits: those of the last byte
one_more : (x e : ℕ) → x / 2 ^ suc e ≡ x / 2 ^ e / 2
one_more x e = ap (λ k. x / k) (pow-suc 2 e) ∙ sym (div-div-eq-div-mul x (2 ^ e) 2)

pub none_behind : (x e d : ℕ) → x / 2 ^ e ≡ 0 → x / 2 ^ (e + d) ≡ 0
none_behind x e zero z = let k : e + 0 ≡ e = omega arith in ap (λ j. x / 2 ^ j) k ∙ z
none_behind x e (suc d) z =
    let k : e + suc d ≡ suc (e + d) = omega arith in
    ap (λ j. x / 2 ^ j) k ∙ one_more x (e + d) ∙ ap (λ y. y / 2) (none_behind x e d z)

none_before : (x e d : ℕ) → x / 2 ^ (e + d) ≡ 0 → ((j : ℕ) → e ≤ j → j < e + d → x / 2 ^ j % 2 ≡ 0) → x / 2 ^ e ≡ 0
none_before x e zero z f = let k : e + 0 ≡ e = omega arith in ap (λ j. x / 2 ^ j) (sym k) ∙ z
none_before x e (suc d) z f =
    let k : e + suc d ≡ suc e + d = omega arith in
    let ih = none_before x (suc e) d (ap (λ j. x / 2 ^ j) (sym k) ∙ z) (λ j h lt. f j (omega arith) (omega arith)) in
    omega (arith, ih, one_more x e, f e (omega arith) (omega arith))

clear_digit : (x : ℕ) → eqb (x % 2) 1 ≡ false → x % 2 ≡ 0
clear_digit x e = let n = eqb-false (x % 2) 1 e in omega arith

module _ (bytes : List ℕ) (n : ℕ) (long : length bytes ≡ (n + 7) / 8) (whole : n % 8 ≡ 0 → ⊥) where
  abbrev last : ℕ
  last = get_or bytes (n / 8) 0

  pub spares_are : last / 2 ^ (n % 8) ≡ 0 → Spared bytes n
  spares_are z p h k =
      let q : p / 8 ≡ n / 8 = omega arith in
      let d : n % 8 + (p % 8 - n % 8) ≡ p % 8 = omega arith in
      ap (λ i. eqb (get_or bytes i 0 / 2 ^ (p % 8) % 2) 1) q ∙ ap (λ y. eqb (y % 2) 1) (ap (λ j. last / 2 ^ j) (sym d) ∙ none_behind last (n % 8) (p % 8 - n % 8) z)

  pub are_spares : last < 256 → Spared bytes n → last / 2 ^ (n % 8) ≡ 0
  are_spares small s =
      let d : n % 8 + (8 - n % 8) ≡ 8 = omega arith in
      none_before last (n % 8) (8 - n % 8) (ap (λ j. last / 2 ^ j) d ∙ div-eq_of_lt small)
      (λ j h lt.
      let q : (8 * (n / 8) + j) / 8 ≡ n / 8 = omega arith in
      let r : (8 * (n / 8) + j) % 8 ≡ j = omega arith in
      clear_digit (last / 2 ^ j) (sym (ap₂ (λ a b. eqb (get_or bytes a 0 / 2 ^ b % 2) 1) q r) ∙ s (8 * (n / 8) + j) (omega arith) (omega arith)))

pub no_spares : (bytes : List ℕ) (n : ℕ) → length bytes ≡ (n + 7) / 8 → n % 8 ≡ 0 → Spared bytes n
no_spares bytes n long e p h k = absurd (omega arith)

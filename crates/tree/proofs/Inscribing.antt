-- What was put into a buffer, from its first byte on.
use Rattle.std.proofs.Common.{◌≡◌, ℕ, ◌+◌, ◌-◌, ◌*◌, ◌/◌, ◌%◌, ◌^◌, ◌<◌, ◌≤◌, Bool, eqb, List, length, get_or, take, sym, ap, ◌∙◌, subst, ap₂, arith}
use native.Mathlib.Nat.{div-eq_of_lt}
use Rattle.std.proofs.lemmas.List.{get_or-take, length-take-le}
use Rattle.tree.specs.Bitmaps.{bit, bits, cells, encode_l, encode_t, Valid}
use Rattle.tree.specs.Faults.{High}
use Rattle.tree.specs.Laws.{Listed}
use Rattle.tree.specs.Openings.{BitsOf}
use Rattle.tree.specs.Reader.{Bitmap, Directory, most_bits, Spared}
use Rattle.tree.specs.Passes.{Put}
use Rattle.tree.specs.Writing.{Inscribed}
use Rattle.tree.proofs.Bytes.{none_behind}
use Rattle.tree.proofs.Putting.{put_length, bits_same}
use Rattle.tree.proofs.Written.{written_reads_back}

pub inscribed : (xs ys : List ℕ) (n : ℕ) (bs : List Bool) → Put xs ys 0 n bs → Inscribed xs ys (4 * n) bs
inscribed xs ys n bs put = record {
  size = omega (arith, put_length xs ys 0 n bs put);
  written = put.written;
  spare = λ p h k.
      let x = get_or ys (n / 2) 0 in
      let odd : n % 2 ≡ 1 = omega arith in
      let q : p / 8 ≡ n / 2 = omega arith in
      let d : 4 + (p % 8 - 4) ≡ p % 8 = omega arith in
      let z : x / 2 ^ 4 ≡ 0 = div-eq_of_lt (put.spare (omega arith) odd) in
      ap (λ i. eqb (get_or ys i 0 / 2 ^ (p % 8) % 2) 1) q ∙ ap (λ y. eqb (y % 2) 1) (ap (λ j. x / 2 ^ j) (sym d) ∙ none_behind x 4 (p % 8 - 4) z);
  kept = λ k h. put.kept k (omega arith) (omega arith);
}

-- the bytes that were written, cut off
module _ (xs ys : List ℕ) (n : ℕ) (bs : List Bool) (w : Inscribed xs ys n bs) (fits : (n + 7) / 8 ≤ length ys) where
  abbrev cut : List ℕ
  cut = take ((n + 7) / 8) ys

  cut_length : length cut ≡ (n + 7) / 8
  cut_length = length-take-le ((n + 7) / 8) ys fits

  cut_bit : (p : ℕ) → p < 8 * ((n + 7) / 8) → bit cut p ≡ bit ys p
  cut_bit p h = ap (λ x. eqb (x / 2 ^ (p % 8) % 2) 1) (get_or-take ((n + 7) / 8) ys (p / 8) 0 (omega arith))

  pub cut_bitmap : n ≤ most_bits → Bitmap cut n
  cut_bitmap h = (cut_length, h)

  pub cut_bits : bits cut n ≡ bs
  cut_bits = bits_same ys cut n (λ p h. cut_bit p (omega arith)) ∙ w.written

  pub cut_spared : Spared cut n
  cut_spared p h k = cut_bit p (omega (arith, cut_length)) ∙ w.spare p h (omega (arith, cut_length))

module _ (codes : List ℕ) (height : ℕ) (high : High height) (listed : Listed height codes) (xs ys : List ℕ) (n : ℕ) (up : Inscribed xs ys n (encode_t height codes))
    (us vs : List ℕ) (m : ℕ) (low : Inscribed us vs m (encode_l height codes)) where
  pub back : Valid height (bits ys n) (bits vs m) × (cells height (bits ys n) (bits vs m) ≡ codes)
  back =
      let w = written_reads_back height codes (omega (arith, high)) listed in
      let e = sym up.written in
      let f = sym low.written in
      (subst (λ x. Valid height x (bits vs m)) e (subst (Valid height (encode_t height codes)) f w.0), sym (ap₂ (cells height) e f) ∙ w.1)

  pub again : (n + 7) / 8 ≤ length ys → (m + 7) / 8 ≤ length vs → n ≤ most_bits → m ≤ most_bits → (counts : List ℕ) → Directory (take ((n + 7) / 8) ys) n counts
      → BitsOf codes height (take ((n + 7) / 8) ys) n (take ((m + 7) / 8) vs) m counts
  again fit fit' few few' counts d = record {
    listed = listed;
    high = high;
    upper = cut_bitmap xs ys n (encode_t height codes) up fit few;
    lower = cut_bitmap us vs m (encode_l height codes) low fit' few';
    t_is = cut_bits xs ys n (encode_t height codes) up fit;
    l_is = cut_bits us vs m (encode_l height codes) low fit';
    upper_spare = cut_spared xs ys n (encode_t height codes) up fit;
    lower_spare = cut_spared us vs m (encode_l height codes) low fit';
    counted = d;
  }

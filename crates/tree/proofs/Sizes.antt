-- Where the levels end.
use Rattle.std.proofs.Common.{◌≡◌, ℕ, zero, suc, ◌+◌, ◌-◌, ◌*◌, ◌%◌, ◌<◌, ◌≤◌, Bool, eqb, List, [], ◌∷◌, ◌++◌, length, get_or, take, drop, set, Decides, refl, ap, ◌∙◌, arith, length-append}
use borrow.Rule.Slice.PartMut.{put_mid}
use Rattle.std.proofs.lemmas.List.{get_or_append_left}
use Rattle.std.proofs.lemmas.Bool.{eq-eqb, eqb-true}
use Rattle.tree.specs.Bitmaps.{bits, ones, demanded, Sized}
use Rattle.tree.specs.Reader.{ones_before}
use Rattle.tree.proofs.Bytes.{length-bits}

pub take-add : (a b : ℕ) (bs : List Bool) → ones (take (a + b) bs) ≡ ones (take a bs) + ones (take b (drop a bs))
take-add zero b bs = let e : 0 + b ≡ b = omega arith in ap (λ n. ones (take n bs)) e ∙ omega arith
take-add (suc a) zero [] = let e : suc a + 0 ≡ suc a = omega arith in ap (λ n. ones (take n [])) e
take-add (suc a) (suc b) [] = let e : suc a + suc b ≡ suc (a + suc b) = omega arith in ap (λ n. ones (take n [])) e
take-add (suc a) b (x ∷ bs) =
    let e : suc a + b ≡ suc (a + b) = omega arith in
    let ih = take-add a b bs in
    ap (λ n. ones (take n (x ∷ bs))) e ∙ omega arith

-- a level ends behind the blocks of all ones before its own beginning
pub level_end : (k m : ℕ) (bs : List Bool) → demanded (suc k) m bs ≡ 4 * m + 4 * ones (take (demanded k m bs) bs)
unfolding demanded
level_end zero m bs = omega arith
level_end (suc k) m bs =
    let m' = ones (take (4 * m) bs) in
    let bs' = drop (4 * m) bs in
    let ih = level_end k m' bs' in
    omega (arith, take-add (4 * m) (demanded k m' bs') bs)

ones_take_mono : (a b : ℕ) (bs : List Bool) → a ≤ b → ones (take a bs) ≤ ones (take b bs)
ones_take_mono a b bs h =
    let e : a + (b - a) ≡ b = omega arith in
    omega (arith, take-add a (b - a) bs, ap (λ n. ones (take n bs)) e)

pub ends_rise : (k : ℕ) (bs : List Bool) → demanded k 1 bs ≤ demanded (suc k) 1 bs
unfolding demanded
ends_rise zero bs = omega arith
ends_rise (suc k) bs =
    let m = ones_take_mono (demanded k 1 bs) (demanded (suc k) 1 bs) bs (ends_rise k bs) in
    omega (arith, level_end k 1 bs, level_end (suc k) 1 bs)

ends_mono : (k j : ℕ) (bs : List Bool) → demanded k 1 bs ≤ demanded (k + j) 1 bs
ends_mono k zero bs = let e : k + 0 ≡ k = omega arith in omega (arith, ap (λ n. demanded n 1 bs) e)
ends_mono k (suc j) bs = let e : k + suc j ≡ suc (k + j) = omega arith in omega (arith, ap (λ n. demanded n 1 bs) e, ends_mono k j bs, ends_rise (k + j) bs)

module _ (t : List ℕ) (tn : ℕ) (l : List Bool) where
  abbrev whole : List Bool
  whole = bits t tn ++ l

  in_t : (n : ℕ) → n ≤ tn → ones (take n whole) ≡ ones_before t n
  in_t n h =
      ap ones (Rattle.std.proofs.lemmas.List.take-append-le n (bits t tn) l (omega (arith, length-bits t tn)) ∙ Rattle.tree.proofs.Bytes.take-bits t n tn h)

  pub next_end : (k end rank : ℕ) → end ≡ demanded k 1 whole → end ≤ tn → rank ≡ ones_before t end → 4 + 4 * rank ≡ demanded (suc k) 1 whole
  next_end k end rank e h r = omega (arith, level_end k 1 whole, ap (λ n. ones (take n whole)) e, in_t end h)

  pub too_short : (height k end : ℕ) → 0 < height → k < height → end ≡ demanded k 1 whole → tn < end → Sized height (bits t tn) l → ⊥
  too_short height k end p h e lt s =
      let q : k + (height - 1 - k) ≡ height - 1 = omega arith in
      omega (arith, ends_mono k (height - 1 - k) whole, ap (λ n. demanded n 1 whole) q, s.0, length-bits t tn)

  pub not_so : (height end : ℕ) → end ≡ demanded (height - 1) 1 whole → (end ≡ tn → ⊥) → Sized height (bits t tn) l → ⊥
  not_so height end e ne s = ne (omega (arith, s.0, length-bits t tn))

  pub just_so : (height end rank ln : ℕ) → 0 < height → length l ≡ ln → end ≡ demanded (height - 1) 1 whole → end ≡ tn → rank ≡ ones_before t end
      → Decides (eqb (4 + 4 * rank) (tn + ln)) (Sized height (bits t tn) l)
  just_so height end rank ln p n e z r =
      let q : suc (height - 1) ≡ height = omega arith in
      let x : 4 + 4 * rank ≡ demanded height 1 whole = next_end (height - 1) end rank e (omega arith) r ∙ ap (λ k. demanded k 1 whole) q in
      let y : length whole ≡ tn + ln = omega (arith, length-append (bits t tn) l, length-bits t tn) in (
        λ v. let f = eqb-true (4 + 4 * rank) (tn + ln) v in (omega (arith, length-bits t tn), omega arith),
        λ s. eq-eqb (4 + 4 * rank) (tn + ln) (omega (arith, s.1)),
      )

-- a 0 first, and these counts behind it
module _ (counts ys : List ℕ) (k : ℕ) (some : 0 < length counts) where
  abbrev laid : List ℕ
  laid = put_mid 1 k (set counts 0 0) ys

  pub laid-long : length ys < length laid
  laid-long = go counts some
    where
      go : (cs : List ℕ) → 0 < length cs → length ys < length (put_mid 1 k (set cs 0 0) ys)
      go [] h = absurd (omega arith)
      go (c ∷ cs) h = omega (arith, length-append ys (drop k cs))

  pub laid-is : (t : List ℕ) → ((j : ℕ) → j < length ys → get_or ys j 0 ≡ ones_before t (512 * (j + 1))) → (j : ℕ) → j ≤ length ys → get_or laid j 0 ≡ ones_before t (512 * j)
  laid-is t f = go counts some
    where
      go : (cs : List ℕ) → 0 < length cs → (j : ℕ) → j ≤ length ys → get_or (put_mid 1 k (set cs 0 0) ys) j 0 ≡ ones_before t (512 * j)
      go [] h j le = absurd (omega arith)
      go (c ∷ cs) h zero le = refl
      go (c ∷ cs) h (suc j) le =
          let e : j + 1 ≡ suc j = omega arith in
          get_or_append_left ys (drop k cs) 0 j (omega arith) ∙ f j (omega arith) ∙ ap (λ n. ones_before t (512 * n)) e

-- levels are whole blocks
pub demanded_four : (k m : ℕ) (bs : List Bool) → demanded k m bs % 4 ≡ 0
unfolding demanded
demanded_four zero m bs = refl
demanded_four (suc k) m bs = omega (arith, demanded_four k (ones (take (4 * m) bs)) (drop (4 * m) bs))

pub sized_four : (height : ℕ) (t l : List Bool) → Sized height t l → (length t % 4 ≡ 0) × (length l % 4 ≡ 0)
sized_four height t l s =
    let a = demanded_four (height - 1) 1 (t ++ l) in
    let b = demanded_four height 1 (t ++ l) in
    (omega (arith, s.0, a), omega (arith, s.0, s.1, a, b, length-append t l))

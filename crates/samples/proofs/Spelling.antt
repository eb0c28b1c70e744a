-- Small digits, and the bytes that they write.
use Rattle.std.proofs.Common.{◌≡◌, ℕ, zero, suc, ◌+◌, ◌*◌, ◌/◌, ◌%◌, ◌<◌, ◌≤◌, Bool, true, false, ◌||◌, List, [], ◌∷◌, slice_index, Option, Some, None, Result, Ok, Err, MatchResult, ◌⊎◌, inl, inr, refl, sym, ap, ap₂, ◌∙◌, ⊎_elim, arith}
use Rattle.std.specs.List.{list_any}
use Rattle.std.specs.Result.{result_unwrap_or}
use Rattle.hex.specs.Hex.{IsBytes, decode_of, decode_pairs, digit_or_error, hex_digit_value, encode_with, lower_digits, pair_value, value_at, ◌>>=◌}
use Rattle.hex.specs.declared.error.FromHexError.{FromHexError}
use Rattle.hex.proofs.HexLemmas.{IsDigits-lower_digits, decode_of-encode_lower, decode_of-ok, decode_of-even}
use Rattle.samples.specs.Pairs.{in_pairs, other, stray, WrittenFilm}

-- the sixteen digits are small digits
table_small : (v : ℕ) → v < 16 → other (slice_index lower_digits v) ≡ false
table_small zero h = refl
table_small (suc zero) h = refl
table_small (suc (suc zero)) h = refl
table_small (suc (suc (suc zero))) h = refl
table_small (suc (suc (suc (suc zero)))) h = refl
table_small (suc (suc (suc (suc (suc zero))))) h = refl
table_small (suc (suc (suc (suc (suc (suc zero)))))) h = refl
table_small (suc (suc (suc (suc (suc (suc (suc zero))))))) h = refl
table_small (suc (suc (suc (suc (suc (suc (suc (suc zero)))))))) h = refl
table_small (suc (suc (suc (suc (suc (suc (suc (suc (suc zero))))))))) h = refl
table_small (suc (suc (suc (suc (suc (suc (suc (suc (suc (suc zero)))))))))) h = refl
table_small (suc (suc (suc (suc (suc (suc (suc (suc (suc (suc (suc zero))))))))))) h = refl
table_small (suc (suc (suc (suc (suc (suc (suc (suc (suc (suc (suc (suc zero)))))))))))) h = refl
table_small (suc (suc (suc (suc (suc (suc (suc (suc (suc (suc (suc (suc (suc zero))))))))))))) h = refl
table_small (suc (suc (suc (suc (suc (suc (suc (suc (suc (suc (suc (suc (suc (suc zero)))))))))))))) h = refl
table_small (suc (suc (suc (suc (suc (suc (suc (suc (suc (suc (suc (suc (suc (suc (suc zero))))))))))))))) h = refl
table_small (suc (suc (suc (suc (suc (suc (suc (suc (suc (suc (suc (suc (suc (suc (suc (suc v)))))))))))))))) h = absurd (omega arith)

value_small : (c v : ℕ) → hex_digit_value c ≡ Some v → v < 16
value_small c v h = grind (arith)

-- a small digit is a figure or a letter, and its value says which
small_is : (c : ℕ) → other c ≡ false → ((48 ≤ c) × (c ≤ 57)) ⊎ ((97 ≤ c) × (c ≤ 102))
small_is c h = grind (arith)

figure_value : (c v : ℕ) → hex_digit_value c ≡ Some v → c ≤ 57 → v + 48 ≡ c
figure_value c v h le = grind (arith)

letter_value : (c v : ℕ) → hex_digit_value c ≡ Some v → 97 ≤ c → v + 87 ≡ c
letter_value c v h ge = grind (arith)

-- the digits of one value, where both are small
one_digit : (c d v : ℕ) → hex_digit_value c ≡ Some v → hex_digit_value d ≡ Some v → other c ≡ false → other d ≡ false → c ≡ d
one_digit c d v p q r s =
    ⊎_elim
    (λ f. ⊎_elim
    (λ g. sym (figure_value c v p f.1) ∙ figure_value d v q g.1)
    (λ l. absurd (omega (arith, figure_value c v p f.1, letter_value d v q l.0, f.1, l.0)))
    (small_is d s))
    (λ k. ⊎_elim
    (λ g. absurd (omega (arith, letter_value c v p k.0, figure_value d v q g.1, k.0, g.1)))
    (λ l. sym (letter_value c v p k.0) ∙ letter_value d v q l.0)
    (small_is d s))
    (small_is c r)

digit_back : (c v : ℕ) → hex_digit_value c ≡ Some v → other c ≡ false → slice_index lower_digits v ≡ c
digit_back c v h small =
    let lt = value_small c v h in
    one_digit (slice_index lower_digits v) c v (IsDigits-lower_digits v lt) h (table_small v lt) small

-- ---- the texts that small digits write

both_false : (a b : Bool) → (a || b) ≡ false → (a ≡ false) × (b ≡ false)
both_false false b h = (refl, h)
both_false true b h = cc h

-- bytes are written in small digits
written_small : (xs : List ℕ) → IsBytes xs → list_any other (encode_with lower_digits xs) ≡ false
unfolding encode_with
written_small [] h = refl
written_small (b ∷ rest) h =
    let byte : b < 256 = h 0 in
    let high = table_small (b / 16) (omega arith) in
    let low = table_small (b % 16) (omega arith) in
    rw (high, low) (written_small rest (λ i. h (suc i)))

bind_ok : {A B : Type 0} (r : Result A FromHexError) (f : A → Result B FromHexError) (y : B) → (r >>= f) ≡ Ok y → (x : A) × (r ≡ Ok x) × (f x ≡ Ok y)
bind_ok (Ok x) f y h = (x, refl, h)
bind_ok (Err e) f y h = cc h

digit_read : (c i : ℕ) (o : Option ℕ) (v : ℕ) → digit_or_error c i o ≡ Ok v → o ≡ Some v
digit_read c i (Some w) v h = ap Some (ap (λ (r : Result ℕ FromHexError). result_unwrap_or r 0) h)
digit_read c i None v h = cc h

-- what small digits decode to is what they write
pairs_back : (i : ℕ) (s bytes : List ℕ) → list_any other s ≡ false → decode_pairs i s ≡ Ok bytes → encode_with lower_digits bytes ≡ s
unfolding decode_pairs encode_with
pairs_back i [] bytes small h =
    let e : [] ≡ bytes = ap (λ (r : Result (List ℕ) FromHexError). result_unwrap_or r []) h in
    rw (← e) refl
pairs_back i (a ∷ []) bytes small h = cc h
pairs_back i (a ∷ b ∷ rest) bytes small h =
    let first = both_false (other a) (other b || list_any other rest) small in
    let second = both_false (other b) (list_any other rest) first.1 in
    let p0 = bind_ok (pair_value a b i) _ bytes h in
    let p1 = bind_ok (value_at a i) _ p0.0 p0.1 in
    let p2 = bind_ok (value_at b (i + 1)) _ p0.0 p1.2 in
    let p3 = bind_ok (decode_pairs (i + 2) rest) _ bytes p0.2 in
    let ra = digit_read a i (hex_digit_value a) p1.0 p1.1 in
    let rb = digit_read b (i + 1) (hex_digit_value b) p2.0 p2.1 in
    let va = value_small a p1.0 ra in
    let vb = value_small b p2.0 rb in
    let byte : p1.0 * 16 + p2.0 ≡ p0.0 = ap (λ (r : Result ℕ FromHexError). result_unwrap_or r 0) p2.2 in
    let e : p0.0 ∷ p3.0 ≡ bytes = ap (λ (r : Result (List ℕ) FromHexError). result_unwrap_or r []) p3.2 in
    let high : p0.0 / 16 ≡ p1.0 = omega (arith, byte, vb) in
    let low : p0.0 % 16 ≡ p2.0 = omega (arith, byte, vb) in
    rw (← e, high, low) (ap₂ (λ x y. x ∷ y) (digit_back a p1.0 ra first.0) (ap₂ (λ x y. x ∷ y) (digit_back b p2.0 rb second.0) (pairs_back (i + 2) rest p3.0 second.1 p3.1)))

-- ---- films

-- a film that was decoded from small digits is written by the text; where they don't decode, the text writes none
pub decoded_film : (text film : List ℕ) → stray text ≡ false → MatchResult (decode_of (in_pairs text)) (λ bytes. film ≡ bytes) (λ _. film ≡ []) → WrittenFilm text film
decoded_film text film small m = go (decode_of (in_pairs text)) refl m
  where
    go : (r : Result (List ℕ) FromHexError) → decode_of (in_pairs text) ≡ r → MatchResult r (λ bytes. film ≡ bytes) (λ _. film ≡ []) → WrittenFilm text film
    go (Ok bytes) d e =
        let ok = decode_of-ok (in_pairs text) bytes d in
        rw e (inl (ok.3, pairs_back 0 (in_pairs text) bytes small (sym (decode_of-even (in_pairs text) ok.0) ∙ d)))
    go (Err x) d e = inr (e, λ bytes w. let s : Ok bytes ≡ Err x = sym (decode_of-encode_lower bytes w.0) ∙ ap decode_of w.1 ∙ d in cc s)

-- a text with another sign in its pairs writes none
pub no_film : (text film : List ℕ) → stray text ≡ true → film ≡ [] → WrittenFilm text film
no_film text film other_sign e =
    inr (e, λ bytes w. let t : true ≡ false = sym other_sign ∙ sym (ap (list_any other) w.1) ∙ written_small bytes w.0 in cc t)

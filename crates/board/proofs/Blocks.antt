-- Squares are blocks of cells.
use Rattle.std.proofs.Common.{◌≡◌, ℕ, suc, ◌+◌, ◌-◌, ◌*◌, ◌/◌, ◌^◌, ◌<◌, ◌≤◌, sym, ap, ◌∙◌, ap₂, mul-le-mul_right, suc-mul, arith}
use Rattle.std.proofs.lemmas.Nat.{pow_pos, pow-add, div-add-mod', mod_below, div-mul-add}
use Rattle.board.specs.Morton.{x_of, y_of, code}
use Rattle.board.specs.Spans.{first, last, SquaresAreBlocks}
use Rattle.board.specs.CodeFacts.Codes.{x_outer, y_outer, back, codes_are_exact}

-- p lies in the block of 2 ^ l places that begins at p / 2 ^ l * 2 ^ l
block : (p l : ℕ) → (p / 2 ^ l * 2 ^ l ≤ p) × (p ≤ p / 2 ^ l * 2 ^ l + (2 ^ l - 1))
block p l = let e = div-add-mod' p (2 ^ l) in let h = mod_below p (2 ^ l) (pow_pos l) in (omega arith, omega arith)

within : (p q l : ℕ) → q * 2 ^ l ≤ p → p ≤ q * 2 ^ l + (2 ^ l - 1) → p / 2 ^ l ≡ q
within p q l h k =
    let pos = pow_pos l in
    let lt : p - q * 2 ^ l < 2 ^ l = omega arith in
    let e : p ≡ q * 2 ^ l + (p - q * 2 ^ l) = omega arith in
    ap (λ (x : ℕ). x / 2 ^ l) e ∙ div-mul-add q (2 ^ l) (p - q * 2 ^ l) lt

uncut : (l p : ℕ) → p < 2 ^ (16 - l) → l ≤ 16 → (first l p ≡ p * 2 ^ l) × (last l p ≡ p * 2 ^ l + (2 ^ l - 1))
unfolding first last
uncut l p h k =
    let m : suc p * 2 ^ l ≤ 2 ^ (16 - l) * 2 ^ l = mul-le-mul_right (2 ^ l) h in
    let e : 2 ^ (16 - l) * 2 ^ l ≡ 2 ^ 16 = sym (pow-add 2 (16 - l) l) ∙ ap (λ (k : ℕ). 2 ^ k) (let s : (16 - l) + l ≡ 16 = omega arith in s) in
    let pos = pow_pos l in
    (omega (arith, suc-mul p (2 ^ l)), omega (arith, suc-mul p (2 ^ l)))

pub squares_are_blocks : SquaresAreBlocks
squares_are_blocks = record {
  inside = λ l n c e.
      let x : x_of n ≡ x_of c / 2 ^ l = ap (λ (m : ℕ). x_of m) (sym e) ∙ x_outer c l in
      let y : y_of n ≡ y_of c / 2 ^ l = ap (λ (m : ℕ). y_of m) (sym e) ∙ y_outer c l in
      rw (x, y) ((block (x_of c) l).0, (block (x_of c) l).1, (block (y_of c) l).0, (block (y_of c) l).1);
  only = λ l n c i.
      let x : x_of (c / 4 ^ l) ≡ x_of n = x_outer c l ∙ within (x_of c) (x_of n) l i.0 i.1 in
      let y : y_of (c / 4 ^ l) ≡ y_of n = y_outer c l ∙ within (y_of c) (y_of n) l i.2 i.3 in
      sym (back (c / 4 ^ l)) ∙ ap₂ code x y ∙ back n;
  west = λ l n h. (uncut l (x_of n) (codes_are_exact.column_limited (16 - l) n h.1) h.0).0;
  east = λ l n h. (uncut l (x_of n) (codes_are_exact.column_limited (16 - l) n h.1) h.0).1;
  south = λ l n h. (uncut l (y_of n) (codes_are_exact.row_limited (16 - l) n h.1) h.0).0;
  north = λ l n h. (uncut l (y_of n) (codes_are_exact.row_limited (16 - l) n h.1) h.0).1;
}

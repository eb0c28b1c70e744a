use Rattle.std.proofs.Common.{◌≡◌, ℕ, suc, ◌+◌, ◌-◌, ◌*◌, ◌≤◌, Bool, List, [], ◌++◌, refl, ap, ◌∙◌, arith}
use Rattle.std.proofs.lemmas.Bool.{false≢true}
use Rattle.tree.specs.Bitmaps.{bits, demanded}
use Rattle.tree.specs.Held.{bits_of}
use Rattle.tree.specs.Reader.{ones_before}
use Rattle.tree.proofs.Bytes.{length-bits, ones_before_le}
use Rattle.tree.proofs.Sizes.{next_end, ends_rise, too_short, not_so, just_so}
use Rattle.tree.proofs.opening.levels_fit.Goals as goal

pub loop-level-init : goal.loop-level-init
unfolding demanded
loop-level-init c = (λ low. refl, refl, omega arith)

-- where the level ends that comes next
next-is : (t : List ℕ) (tn : ℕ) (low : List Bool) (level end ones : ℕ) → 1 ≤ level → end ≡ demanded (level - 1) 1 (bits t tn ++ low) → ones ≡ ones_before t end → end ≤ tn
    → 4 + 4 * ones ≡ demanded level 1 (bits t tn ++ low)
next-is t tn low level end ones h e r k =
    let s : suc (level - 1) ≡ level = omega arith in
    next_end t tn low (level - 1) end ones e k r ∙ ap (λ x. demanded x 1 (bits t tn ++ low)) s

pub overflow_mul-next : goal.overflow_mul-next
overflow_mul-next c = omega (arith, c.loop-level.invariant.1, c.loop-level.invariant.2, ones_before_le c.args.t.now.bytes.now c.loop-level.end, c.args.t.now.fits)

pub overflow_add-next : goal.overflow_add-next
overflow_add-next c = omega (arith, c.loop-level.invariant.1, c.loop-level.invariant.2, ones_before_le c.args.t.now.bytes.now c.loop-level.end, c.args.t.now.fits)

pub returns-then-next-t : goal.returns-then-next-t
returns-then-next-t c =
    let l = bits_of c.args.l.now in (
      λ e. absurd (false≢true e),
      λ s. absurd (too_short c.args.t.now.bytes.now c.args.t.now.len l c.args.height.levels c.loop-level._level (4 + 4 * c.loop-level.ones) c.args.height.in_range.0 (omega arith)
          (next-is c.args.t.now.bytes.now c.args.t.now.len l c.loop-level._level c.loop-level.end c.loop-level.ones c.loop-level.auto._level (c.loop-level.invariant.0 l) c.loop-level.invariant.1 c.loop-level.invariant.2)
          c.if-next-t.true s),
    )

pub ones_between-ones-requires : goal.ones_between-ones-requires
ones_between-ones-requires c =
    let e = next-is c.args.t.now.bytes.now c.args.t.now.len [] c.loop-level._level c.loop-level.end c.loop-level.ones c.loop-level.auto._level (c.loop-level.invariant.0 []) c.loop-level.invariant.1 c.loop-level.invariant.2 in
    let k : suc (c.loop-level._level - 1) ≡ c.loop-level._level = omega (arith, c.loop-level.auto._level) in
    let d = ends_rise (c.loop-level._level - 1) (bits_of c.args.t.now ++ []) in
    let u = c.loop-level.invariant.0 [] in
    let w = ap (λ x. demanded x 1 (bits_of c.args.t.now ++ [])) k in
    (omega (arith, d, e, u, w), c.if-next-t.false)

pub overflow_add-ones : goal.overflow_add-ones
overflow_add-ones c = omega (arith, c.ones_between-ones.ensures, c.loop-level.invariant.1, ones_before_le c.args.t.now.bytes.now (4 + 4 * c.loop-level.ones), c.if-next-t.false, c.args.t.now.fits)

pub loop-level-preserved : goal.loop-level-preserved
loop-level-preserved c = (
  λ low.
      let k : c.loop-level._level ≡ c.loop-level._level + 1 - 1 = omega arith in
      next-is c.args.t.now.bytes.now c.args.t.now.len low c.loop-level._level c.loop-level.end c.loop-level.ones c.loop-level.auto._level (c.loop-level.invariant.0 low) c.loop-level.invariant.1 c.loop-level.invariant.2
      ∙ ap (λ x. demanded x 1 (bits_of c.args.t.now ++ low)) k,
  ap (λ x. x + c.ones_between-ones.result) c.loop-level.invariant.1 ∙ c.ones_between-ones.ensures,
  c.if-next-t.false,
)

pub returns-then-end-t : goal.returns-then-end-t
returns-then-end-t c =
    let l = bits_of c.args.l.now in
    let k : c.loop-level._level - 1 ≡ c.args.height.levels - 1 = omega arith in (
      λ e. absurd (false≢true e),
      λ s. absurd (not_so c.args.t.now.bytes.now c.args.t.now.len l c.args.height.levels c.loop-level.end
          (c.loop-level.invariant.0 l ∙ ap (λ x. demanded x 1 (bits_of c.args.t.now ++ l)) k) c.if-end-t.true s),
    )

pub overflow_mul-result : goal.overflow_mul-result
overflow_mul-result c = omega (arith, c.loop-level.invariant.1, c.loop-level.invariant.2, ones_before_le c.args.t.now.bytes.now c.loop-level.end, c.args.t.now.fits)

pub overflow_add-result : goal.overflow_add-result
overflow_add-result c = omega (arith, c.loop-level.invariant.1, c.loop-level.invariant.2, ones_before_le c.args.t.now.bytes.now c.loop-level.end, c.args.t.now.fits)

pub returns : goal.returns
returns c =
    let l = bits_of c.args.l.now in
    let k : c.loop-level._level - 1 ≡ c.args.height.levels - 1 = omega arith in
    just_so c.args.t.now.bytes.now c.args.t.now.len l c.args.height.levels c.loop-level.end c.loop-level.ones c.args.l.now.len c.args.height.in_range.0 (length-bits c.args.l.now.bytes.now c.args.l.now.len)
    (c.loop-level.invariant.0 l ∙ ap (λ x. demanded x 1 (bits_of c.args.t.now ++ l)) k) c.if-end-t.false c.loop-level.invariant.1

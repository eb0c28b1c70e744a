use Rattle.std.proofs.Common.{◌≡◌, sym, rules, arith}
use Rattle.std.proofs.lemmas.Bool.Decides.{not_from_Decides}
use Rattle.tree.specs.Held.{bits_of}
use Rattle.tree.proofs.Bytes.{length-bits}
use Rattle.tree.proofs.Sizes.{sized_four}
use Rattle.tree.proofs.Refusing.{hollow_first, spare_first}
use Rattle.tree.proofs.opening.check_tree.Goals as goal
use Rattle.tree.proofs.opening.check_tree.Goals.{In_ok-height, In_ok-t, In_ok-l}

same_height : (c : In_ok-height) → c.in_ok-height.height.levels ≡ c.args.height
same_height c = search rules

same_t : (c : In_ok-t) → (c.in_ok-t.t.bytes.now ≡ c.args.t.now) × (c.in_ok-t.t.len ≡ c.args.t_bits)
same_t c = search rules

same_l : (c : In_ok-l) → (c.in_ok-l.l.bytes.now ≡ c.args.l.now) × (c.in_ok-l.l.len ≡ c.args.l_bits)
same_l c = search rules

pub first_hollow-requires : goal.first_hollow-requires
first_hollow-requires c =
    let t = c.in_ok-t.t in
    let l = c.in_ok-l.l in
    let f = sized_four c.in_ok-height.height.levels (bits_of t) (bits_of l) (c.levels_fit.ensures.0 c.if-not-levels_fit.false) in
    (omega (arith, f.0, length-bits t.bytes.now t.len), omega (arith, f.1, length-bits l.bytes.now l.len))

pub returns-in-Some : goal.returns-in-Some
returns-in-Some c =
    let t = c.in_ok-t.t in
    let l = c.in_ok-l.l in
    let e = same_t (goal.at.returns-in-Some c).In_ok-t in
    let d = same_l (goal.at.returns-in-Some c).In_ok-l in
    rw (sym (same_height (goal.at.returns-in-Some c).In_ok-height), sym e.0, sym e.1, sym d.0, sym d.1)
    (hollow_first c.in_ok-height.height.levels t.bytes.now t.len l.bytes.now l.len c.args.counts.now c.in_ok-height.height.in_range t.fits l.fits (c.levels_fit.ensures.0 c.if-not-levels_fit.false)
    c.in-Some.place c.in-Some.ensures.0 c.in-Some.ensures.1)

pub returns-then-not-spares_clear-2 : goal.returns-then-not-spares_clear-2
returns-then-not-spares_clear-2 c =
    let t = c.in_ok-t.t in
    let l = c.in_ok-l.l in
    let e = same_t (goal.at.returns-then-not-spares_clear-2 c).In_ok-t in
    let d = same_l (goal.at.returns-then-not-spares_clear-2 c).In_ok-l in
    rw (sym (same_height (goal.at.returns-then-not-spares_clear-2 c).In_ok-height), sym e.0, sym e.1, sym d.0, sym d.1)
    (spare_first c.in_ok-height.height.levels t.bytes.now t.len l.bytes.now l.len c.args.counts.now c.in_ok-height.height.in_range t.fits l.fits (c.levels_fit.ensures.0 c.if-not-levels_fit.false)
    c.in_default.ensures (c.spares_clear.ensures.0 c.if-not-spares_clear.false) (not_from_Decides _ c.spares_clear-2.ensures c.if-not-spares_clear-2.true))

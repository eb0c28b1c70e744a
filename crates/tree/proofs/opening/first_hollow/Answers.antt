use Rattle.std.proofs.Common.{◌≡◌, ◌+◌, ◌*◌, rules, tests}
use Rattle.std.specs.Option.{option_map}
use Rattle.tree.proofs.Hollows.{hollow_t, first_in_l}
use Rattle.tree.proofs.opening.first_hollow.Goals as goal
use Rattle.tree.proofs.opening.first_hollow.Goals.{After-map, then-before-eq0, else-before-eq0}

pub returns-in-Some : goal.returns-in-Some
returns-in-Some c =
    let r = c.in-Some.ensures in
    hollow_t c.args.t.now.bytes.now c.args.l.now.bytes.now c.args.t.now.len c.args.l.now.len c.requires.0 c.requires.1 c.in-Some.block r.0 r.1 r.2 r.3

moved : (c : After-map) → c.map.result ≡ option_map (λ b. c.args.t.now.len + 4 * b) c.first_empty-2.result
moved c = search (rules, tests)

pub returns : goal.returns
returns c =
    let first : c.args.t.now.len ≡ 0 → c.if-before-eq0.from ≡ 1 =
    λ z. elim c.if-before-eq0.branch [ then-before-eq0 w ↦ w.from-is | else-before-eq0 w ↦ absurd (w.if-before-eq0.false z) ] in
    let some : (c.args.t.now.len ≡ 0 → ⊥) → c.if-before-eq0.from ≡ 0 =
    λ ne. elim c.if-before-eq0.branch [ then-before-eq0 w ↦ absurd (ne w.if-before-eq0.true) | else-before-eq0 w ↦ w.from-is ] in
    rw (moved c) (first_in_l c.args.t.now.bytes.now c.args.l.now.bytes.now c.args.t.now.len c.args.l.now.len c.requires.0 c.requires.1 c.in_default.ensures c.if-before-eq0.from first some
    c.first_empty-2.result c.first_empty-2.ensures)

use Rattle.std.proofs.Common.{◌-◌, length, ap, sym, ◌∙◌, subst, arith, rules}
use Rattle.tree.specs.Bitmaps.{encode_t, encode_l}
use Rattle.tree.specs.Passes.{Put}
use Rattle.tree.specs.declared.writer.Blocks.{Blocks}
use Rattle.tree.proofs.Putting.{put_none}
use Rattle.tree.proofs.Whole.{some_cell, no_cell, written_start, room_for, written_more, written_end, lower_is, none_upper, none_lower}
use Rattle.tree.proofs.Listing.{listed}
use Rattle.tree.proofs.writer.Listing.write.Goals as goal
use Rattle.tree.proofs.writer.Listing.write.Goals.{then-self-eq1, else-self-eq1}

pub put-requires : goal.put-requires
put-requires c =
    let s = c.args.self.now in
    let e = none_lower s.codes.now s.height.levels (no_cell s.codes.now c.if-is_empty.ensures) c.if-self-eq1.true in
    (omega (arith, ap length e.0, c.requires.lower_room.0), omega arith)

pub put-requires-else-self-eq1 : goal.put-requires-else-self-eq1
put-requires-else-self-eq1 c =
    let s = c.args.self.now in
    let e = none_upper s.codes.now s.height.levels (no_cell s.codes.now c.if-is_empty.ensures) c.if-self-eq1.false s.height.in_range.0 in
    (omega (arith, ap length e.0, c.requires.upper_room.0), omega arith)

pub loop-level-init : goal.loop-level-init
loop-level-init c =
    let s = c.args.self.now in
    record {
      written = written_start s.codes.now s.height.levels c.args.t.now (some_cell s.codes.now c.if-is_empty.ensures) s.height.in_range.0 (listed s);
      same_name = search rules;
      same_length = search rules;
    }

pub write_level-requires-clause-room : goal.write_level-requires-clause-room
write_level-requires-clause-room c =
    let s = c.args.self.now in
    let w = c.loop-level in
    let r = room_for s.codes.now s.height.levels (w.level - 1) c.args.t.now w.upper.bytes.now w.upper.count (listed s).0 (some_cell s.codes.now c.if-is_empty.ensures) (omega arith) w.invariant.written in
    (omega (arith, r, c.requires.upper_room.0, w.invariant.same_length), omega (arith, r, c.requires.upper_room.1))

pub loop-level-preserved : goal.loop-level-preserved
loop-level-preserved c =
    let s = c.args.self.now in
    let w = c.loop-level in
    let p = c.write_level.ensures in
    record {
      written = written_more s.codes.now s.height.levels (w.level - 1) c.args.t.now w.upper.bytes.now c.write_level.new.out.bytes.now w.upper.count c.write_level.new.out.count
          (listed s).0 (some_cell s.codes.now c.if-is_empty.ensures) (omega arith) w.invariant.written p.put;
      same_name = p.same_bytes.0 ∙ w.invariant.same_name;
      same_length = p.same_bytes.1 ∙ w.invariant.same_length;
    }

pub write_level-requires-2-clause-room : goal.write_level-requires-2-clause-room
write_level-requires-2-clause-room c =
    let s = c.args.self.now in
    let e = ap length (lower_is s.codes.now s.height.levels (some_cell s.codes.now c.if-is_empty.ensures) s.height.in_range.0 (listed s)) in
    (omega (arith, e, c.requires.lower_room.0), omega (arith, e, c.requires.lower_room.1))

pub returns-clause-upper : goal.returns-clause-upper
returns-clause-upper c =
    let s = c.args.self.now in
    let w = c.loop-level in
    let put : Put c.args.t.now w.upper.bytes.now 0 w.upper.count (encode_t s.height.levels s.codes.now) =
    written_end s.codes.now s.height.levels (w.level - 1) c.args.t.now w.upper.bytes.now w.upper.count (omega (arith, c.loop-level-test.false)) w.invariant.written in
    let same = w.invariant.same_name in
    search rules

pub returns-clause-lower : goal.returns-clause-lower
returns-clause-lower c =
    let s = c.args.self.now in
    let w = c.write_level-2 in
    let put : Put c.args.l.now w.new.out.bytes.now 0 w.new.out.count (encode_l s.height.levels s.codes.now) =
    subst (Put c.args.l.now w.new.out.bytes.now 0 w.new.out.count) (lower_is s.codes.now s.height.levels (some_cell s.codes.now c.if-is_empty.ensures) s.height.in_range.0 (listed s)) w.ensures.put in
    let same = w.ensures.same_bytes.0 in
    subst (λ x. Put c.args.l.now x 0 w.new.out.count (encode_l s.height.levels s.codes.now)) (search rules) put

pub returns-then-is_empty-clause-upper : goal.returns-then-is_empty-clause-upper
returns-then-is_empty-clause-upper c =
    let s = c.args.self.now in
    let t = c.args.t.now in
    let u = c.if-self-eq1.upper in
    let none = no_cell s.codes.now c.if-is_empty.ensures in
    elim c.if-self-eq1.branch [
      | then-self-eq1 w ↦
          let e = none_lower s.codes.now s.height.levels none w.if-self-eq1.true in
          let put : Put t u.bytes.now 0 u.count (encode_t s.height.levels s.codes.now) = rw w.upper-is (subst (Put t t 0 0) (sym e.1) (put_none t 0)) in
          let same = ap (λ (x : Blocks). x.bytes.ghost_name) w.upper-is in
          search rules
      | else-self-eq1 w ↦
          let e = none_upper s.codes.now s.height.levels none w.if-self-eq1.false s.height.in_range.0 in
          let p = w.put-else-self-eq1 in
          let put : Put t u.bytes.now 0 u.count (encode_t s.height.levels s.codes.now) = rw w.upper-is (subst (Put t p.new.self.bytes.now 0 p.new.self.count) e.0 p.ensures.put) in
          let same = ap (λ (x : Blocks). x.bytes.ghost_name) w.upper-is ∙ p.ensures.same_bytes.0 in
          search rules
    ]

pub returns-then-is_empty-clause-lower : goal.returns-then-is_empty-clause-lower
returns-then-is_empty-clause-lower c =
    let s = c.args.self.now in
    let l = c.args.l.now in
    let u = c.if-self-eq1.lower in
    let none = no_cell s.codes.now c.if-is_empty.ensures in
    elim c.if-self-eq1.branch [
      | then-self-eq1 w ↦
          let e = none_lower s.codes.now s.height.levels none w.if-self-eq1.true in
          let p = w.put in
          let put : Put l u.bytes.now 0 u.count (encode_l s.height.levels s.codes.now) = rw w.lower-is (subst (Put l p.new.self.bytes.now 0 p.new.self.count) e.0 p.ensures.put) in
          let same = ap (λ (x : Blocks). x.bytes.ghost_name) w.lower-is ∙ p.ensures.same_bytes.0 in
          search rules
      | else-self-eq1 w ↦
          let e = none_upper s.codes.now s.height.levels none w.if-self-eq1.false s.height.in_range.0 in
          let put : Put l u.bytes.now 0 u.count (encode_l s.height.levels s.codes.now) = rw w.lower-is (subst (Put l l 0 0) (sym e.1) (put_none l 0)) in
          let same = ap (λ (x : Blocks). x.bytes.ghost_name) w.lower-is in
          search rules
    ]

use Rattle.std.proofs.Common.{◌<◌, ◌-◌, get_or, length, refl, sym, ◌∙◌, subst, arith}
use Rattle.std.proofs.lemmas.Bool.Decides.{not_from_Decides}
use lib.Bits.{bit_or}
use Rattle.tree.proofs.Walked.{walked_start, walked_room, walked_small, walked_same, walked_apart, walked_end, first_is, last_is}
use Rattle.tree.proofs.writer.Listing.write_level.Goals as goal

pub loop-pair-init : goal.loop-pair-init
loop-pair-init c = record {
  walked = walked_start c.args.level c.args.self.now.codes.now c.args.out.now.bytes.now c.args.out.now.count c.into_iter-pair-iterator.result (cc) (cc) c.requires.some;
  same_name = refl;
  same_length = refl;
}

pub put-requires : goal.put-requires
put-requires c =
    let w = c.loop-pair.invariant in
    let room = walked_room _ _ _ _ _ _ _ _ w.walked in
    let first = first_is _ _ _ _ _ _ _ _ w.walked c.next.new.self c.next.result c.in-Some.pair c.in-Some.is c.next.ensures.steps in (
      omega (arith, room, c.requires.room.0, w.same_length),
      subst (λ m. bit_or c.loop-pair.block m < 16) (sym c.mark-block.ensures.quarter) (walked_small _ _ _ _ _ _ _ _ w.walked (get_or c.in-Some.pair.now 0 0) first),
    )

pub loop-pair-preserved-then-not-one_above : goal.loop-pair-preserved-then-not-one_above
loop-pair-preserved-then-not-one_above c =
    let w = c.loop-pair.invariant in
    let p = c.put.ensures in
    record {
      walked =
          rw p.one_more (walked_apart _ _ _ _ _ _ _ _ w.walked c.next.new.self c.next.result c.in-Some.pair c.in-Some.is c.next.ensures.steps c.put.new.self.bytes.now
          (not_from_Decides c.one_above.result c.one_above.ensures c.if-not-one_above.true) (rw (sym c.mark-block.ensures.quarter, sym p.one_more) p.put));
      same_name = p.same_bytes.0 ∙ w.same_name;
      same_length = p.same_bytes.1 ∙ w.same_length;
    }

pub loop-pair-preserved : goal.loop-pair-preserved
loop-pair-preserved c =
    let w = c.loop-pair.invariant in
    record {
      walked =
          rw c.mark-block.ensures.quarter
          (walked_same _ _ _ _ _ _ _ _ w.walked c.next.new.self c.next.result c.in-Some.pair c.in-Some.is c.next.ensures.steps (c.one_above.ensures.0 c.if-not-one_above.false));
      same_name = w.same_name;
      same_length = w.same_length;
    }

pub put-requires-2 : goal.put-requires-2
put-requires-2 c =
    let w = c.loop-pair.invariant in
    let room = walked_room _ _ _ _ _ _ _ _ w.walked in
    let codes = c.args.self.now.codes.now in
    let last = last_is _ _ _ _ _ _ _ _ w.walked c.next.new.self c.next.result c.in-None.is c.next.ensures.steps in (
      omega (arith, room, c.requires.room.0, w.same_length),
      subst (λ m. bit_or c.loop-pair.block m < 16) (sym c.mark.ensures.quarter) (walked_small _ _ _ _ _ _ _ _ w.walked (get_or codes (length codes - 1) 0) last),
    )

pub returns-clause-put : goal.returns-clause-put
returns-clause-put c =
    let w = c.loop-pair.invariant in
    let p = c.put-2.ensures in
    rw p.one_more
    (walked_end _ _ _ _ _ _ _ _ w.walked c.next.new.self c.next.result c.in-None.is c.next.ensures.steps c.put-2.new.self.bytes.now (rw (sym c.mark.ensures.quarter, sym p.one_more) p.put))

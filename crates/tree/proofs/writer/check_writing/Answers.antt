use Rattle.std.proofs.Common.{◌≡◌, sym, refl, subst}
use Rattle.std.proofs.lemmas.Bool.Decides.{not_from_Decides}
use Rattle.std.proofs.lemmas.Option.{MatchOption-at_some}
use Rattle.tree.specs.Faults.{Cramped, High}
use Rattle.tree.specs.Writing.{Writable}
use Rattle.tree.proofs.Listing.{listed_of}
use Rattle.tree.proofs.writer.check_writing.Goals as goal

pub returns : goal.returns
returns c =
    let codes = c.args.codes.now in
    let h = c.in_ok-height.height in
    let r = c.in_ok-check_list.ensures.rising_or_refused in
    let n = c.blocks-t_blocks.ensures in
    let e : h.levels ≡ c.args.height = MatchOption-at_some (High c.args.height → ⊥) (λ k. k.levels ≡ c.args.height) h c.in_ok-height.ensures.ok_part c.of.ensures in
    let w : Writable codes h.levels c.args.t_bytes c.args.l_bytes =
    record {
      high = h.in_range;
      rises = r;
      listed = listed_of h.levels codes r.rising c.in_default.ensures;
      room_t = λ x. not_from_Decides _ c.cramped.ensures c.if-cramped.false (subst (Cramped c.args.t_bytes) (sym n.upper) x);
      room_l = λ x. not_from_Decides _ c.cramped-2.ensures c.if-cramped-2.false (subst (Cramped c.args.l_bytes) (sym n.lower) x);
    } in
    (refl, e, subst (λ k. Writable codes k c.args.t_bytes c.args.l_bytes) e w)

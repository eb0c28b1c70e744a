use Rattle.std.proofs.Common.{◌≡◌, sym, refl, ap₂, ◌∙◌, subst}
use Rattle.std.proofs.lemmas.Result.{err_from_is_err_and}
use Rattle.std.proofs.lemmas.Bool.{false≢true}
use Rattle.board.specs.Lists.{Has}
use Rattle.store.specs.Exact.{exact, Exactly}
use Rattle.store.specs.ExactFacts.{exactly_list}
use Rattle.tree.specs.Bitmaps.{bits, cells}
use Rattle.tree.specs.Held.{bits_of}
use Rattle.tree.specs.Reader.{Directory}
use Rattle.tree.proofs.Levels.{one_tree}
use Rattle.tree.proofs.Accepting.{opened_bits, bits_open, bits_cells, unbroken}
use Rattle.tree.proofs.reader.Tree.open.Goals as goal

pub returns-in_err-t : goal.returns-in_err-t
returns-in_err-t c =
    let p = err_from_is_err_and c.from_residual.result c.from_residual.ensures.1 in
    let a = c.args in
    let first = c.in_err-t.ensures in
    rw (p.1, p.2) (record {
      opened_or_refused = (first, refl);
      accepts_the_bits_of_sets = (
        λ e. absurd (false≢true e),
        λ b. absurd (unbroken a.height a.t.now a.t_bits a.l.now a.l_bits a.counts.now (bits_open a.height a.t.now a.t_bits a.l.now a.l_bits a.counts.now b.0 b.1) _ _ first.0),
      );
      then_holds_that_set = λ codes b.
          absurd (unbroken a.height a.t.now a.t_bits a.l.now a.l_bits a.counts.now (bits_open a.height a.t.now a.t_bits a.l.now a.l_bits a.counts.now codes b) _ _ first.0);
      same_cells_same_bits = one_tree;
    })

pub invariant_of-self-clause-counted : goal.invariant_of-self-clause-counted
invariant_of-self-clause-counted c =
    let o = c.in_ok-t.ensures in
    let t = c.in_ok-t.t in
    subst (λ n. Directory t.bytes.now n c.args.counts.now) (sym o.2) (subst (λ bytes. Directory bytes c.args.t_bits c.args.counts.now) (sym o.1) o.0.counted)

pub returns : goal.returns
returns c =
    let a = c.args in
    let o = c.in_ok-t.ensures in
    let all = cells a.height (bits a.t.now a.t_bits) (bits a.l.now a.l_bits) in
    let t : bits_of c.in_ok-t.t ≡ bits a.t.now a.t_bits = ap₂ bits o.1 o.2 in
    let l : bits_of c.in_ok-t.l ≡ bits a.l.now a.l_bits = ap₂ bits o.3 o.4 in
    let held : cells a.height (bits_of c.in_ok-t.t) (bits_of c.in_ok-t.l) ≡ all = ap₂ (cells a.height) t l in
    record {
      opened_or_refused = (o.0, record { height_is = refl; t_is = t; l_is = l; cells_are = held });
      accepts_the_bits_of_sets = (λ e. (all, opened_bits a.height a.t.now a.t_bits a.l.now a.l_bits a.counts.now o.0), λ b. refl);
      then_holds_that_set = λ codes b.
          let e = held ∙ bits_cells a.height a.t.now a.t_bits a.l.now a.l_bits a.counts.now codes b in
          (e, subst (λ cs. Exactly (Has codes) (exact cs)) (sym e) (exactly_list codes));
      same_cells_same_bits = one_tree;
    }

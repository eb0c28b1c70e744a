use Rattle.std.proofs.lemmas.Bool.{eqb-true, eq-eqb}
use Rattle.std.proofs.Common.{◌/◌, ◌<◌, get_or, rules}
use Rattle.tree.proofs.Bytes.{spares_are, are_spares}
use Rattle.tree.proofs.bitmaps.Bits.spares_clear.Goals as goal

pub returns-else-self-eq0 : goal.returns-else-self-eq0
returns-else-self-eq0 c =
    let bytes = c.args.self.now.bytes.now in
    let n = c.args.self.now.len in
    let small : get_or bytes (n / 8) 0 < 256 = search rules in (
      λ e. spares_are bytes n c.args.self.now.fits.0 c.if-self-eq0.false (eqb-true _ 0 e),
      λ s. eq-eqb _ 0 (are_spares bytes n c.args.self.now.fits.0 c.if-self-eq0.false small s),
    )

use Rattle.std.proofs.Common.{rules, tests, ◌∙◌, ◌*◌, ◌/◌, length, take, sym, ap}
use Rattle.std.proofs.lemmas.Iterator.{YieldsList-from_slice}
use Rattle.std.proofs.lemmas.Iterator.Search.{any_from_yields_List}
use Rattle.samples.specs.Pairs.{in_pairs, other}
use Rattle.samples.proofs.films.pairs.Goals as goal

pub returns-else-any : goal.returns-else-any
returns-else-any c =
    let text = c.args.text.now in
    let pairs = ap (take (length text / 2 * 2)) c.as_bytes.ensures.value in
    let tested = any_from_yields_List other _ _ c.any.result c.any.ensures.ran (YieldsList-from_slice (in_pairs text) (c.iter.ensures.rest ∙ pairs)) (λ x b q k. search (rules, tests)) in
    record { digits_or_none = (sym tested ∙ c.if-any.false, pairs) }

-- Refusals by `?`.
use Rattle.std.proofs.Common.{◌≡◌, None, Option, Err, Result, ap, ◌∙◌, arith}
use Rattle.std.specs.Option.{ok_or}
use Rattle.std.specs.Result.{IsErrAnd}
use Rattle.std.proofs.lemmas.Result.{err_from_is_err_and}
use Rattle.comparison.specs.declared.fault.Fault.{Fault}

-- what `o.ok_or(f)?` returns where it returns
pub refused_by : {T X : Type 0} (o : Option T) (f g : Fault) (r : Result X Fault) → Err g ≡ ok_or o f → o ≡ None → IsErrAnd r (λ y. y ≡ g) → r ≡ Err f
refused_by o f g r v e h =
    let p = err_from_is_err_and r h in
    let q : g ≡ f = grind arith in
    p.1 ∙ ap Err (p.2 ∙ q)

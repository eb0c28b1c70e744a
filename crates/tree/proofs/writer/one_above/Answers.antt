use Rattle.std.proofs.Common.{◌≡◌, ℕ, suc, ◌*◌, ◌/◌, ◌^◌, sym, ◌∙◌}
use Rattle.std.proofs.lemmas.Bool.{eq-eqb, eqb-true}
use Rattle.tree.proofs.Passing.{square_is}
use Rattle.tree.proofs.Walks.{up_one}
use Rattle.tree.proofs.writer.one_above.Goals as goal

pub returns : goal.returns
returns c =
    let l = c.args.level in
    let above : (n : ℕ) → n / 2 ^ (2 * l) / 4 ≡ n / 4 ^ suc l = λ n. square_is n l ∙ up_one n l in
    let a = c.args.a in
    let b = c.args.b in
    (λ t. sym (above a) ∙ eqb-true (a / 2 ^ (2 * l) / 4) (b / 2 ^ (2 * l) / 4) t ∙ above b, λ e. eq-eqb (a / 2 ^ (2 * l) / 4) (b / 2 ^ (2 * l) / 4) (above a ∙ e ∙ sym (above b)))

use Rattle.std.proofs.Common.{◌≡◌, ◌*◌, ◌/◌, ◌^◌, eqb, Decides, sym, ap, ◌∙◌, arith}
use Rattle.std.proofs.lemmas.Bool.Decides.{Decides-eqb, Decides-like}
use Rattle.board.specs.Morton.{code}
use Rattle.board.specs.Squares.{Inside}
use Rattle.board.proofs.Boards.{cut_level}
use Rattle.board.proofs.Blocks.{squares_are_blocks}
use Rattle.board.proofs.square.Square.holds.Goals as goal

pub returns : goal.returns
returns c =
    let l = c.args.self.level in
    let n = c.args.self.number in
    let p = code c.args.cell.x c.args.cell.y in
    let q = c.code.result / 2 ^ (2 * c.min-level.result) in
    let e : q ≡ p / 4 ^ l =
    cut_level c.code.result l c.min-level.result (omega arith) c.min-level.ensures ∙ ap (λ x. x / 4 ^ l) c.code.ensures.value in
    let d : Decides (eqb q n) (Inside l n p) = Decides-like (eqb q n) (λ h. sym e ∙ h) (λ h. e ∙ h) (Decides-eqb q n) in
    record { by_code = d; by_columns_and_rows = Decides-like (eqb q n) (squares_are_blocks.inside l n p) (squares_are_blocks.only l n p) d }

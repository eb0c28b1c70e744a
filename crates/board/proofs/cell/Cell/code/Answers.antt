use Rattle.std.proofs.Common.{◌≡◌, ℕ, ◌*◌, ◌%◌, ◌^◌, ◌∙◌, ap₂, arith}
use lib.Bits.{bit_or}
use Rattle.board.specs.Morton.{code}
use Rattle.board.specs.CodeFacts.Codes.{woven, codes_are_exact}
use Rattle.board.proofs.cell.Cell.code.Goals as goal

pub returns : goal.returns
returns c =
    let x = c.args.self.x in
    let y = c.args.self.y in
    let e : bit_or c.spread.result (c.spread-2.result * 2 % 2 ^ 32) ≡ code x y =
    ap₂ (λ (s t : ℕ). bit_or s (t * 2 % 2 ^ 32)) c.spread.ensures c.spread-2.ensures ∙ woven x y (omega arith) (omega arith) in
    record { value = e; bits_by_turns = rw e (codes_are_exact.interleaved x y) }

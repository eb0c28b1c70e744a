use Rattle.std.proofs.Common.{◌≡◌, ℕ, ◌-◌, ◌*◌, ◌%◌, ◌^◌, ◌<◌, arith}
use Rattle.std.proofs.lemmas.Bool.{ltb-true, lt-ltb}
use Rattle.board.proofs.Tables.{agreed}
use Rattle.board.proofs.square.Square.on_board.Goals as goal

-- 1 << 2j
squares : (j : ℕ) → j < 17 → 1 * 2 ^ (2 * j) % 2 ^ 64 ≡ 4 ^ j
squares = agreed (λ j. 1 * 2 ^ (2 * j) % 2 ^ 64) (λ j. 4 ^ j) 17 tt

pub returns-then-self-le-TOP : goal.returns-then-self-le-TOP
returns-then-self-le-TOP c =
    let s = c.args.self in
    let e = squares (16 - s.level) (omega arith) in
    rw e (record { decides = (λ t. (omega arith, ltb-true _ _ t), λ b. lt-ltb _ _ b.1) })

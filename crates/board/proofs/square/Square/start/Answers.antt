use Rattle.std.proofs.Common.{◌≡◌, ℕ, ◌-◌, ◌*◌, ◌%◌, ◌^◌, ◌<◌, ◌≤◌, min, ap, ◌∙◌, mod-eq_of_lt, mul-le-mul, arith}
use native.Mathlib.Nat.{pow-le-pow_right}
use Rattle.board.proofs.Boards.{four_power}
use Rattle.board.proofs.square.Square.start.Goals as goal

shifted : (n l k : ℕ) → n < 2 ^ 32 → k ≡ min l 16 → n * 2 ^ (2 * k) % 2 ^ 64 ≡ n * 4 ^ min l 16
shifted n l k h e =
    let s : k ≤ 16 = omega arith in
    let w : 4 ^ k ≤ 4 ^ 16 = pow-le-pow_right (omega arith) s in
    let b : n ≤ 2 ^ 32 - 1 = omega arith in
    let p : n * 4 ^ k ≤ (2 ^ 32 - 1) * 4 ^ 16 = mul-le-mul b w in
    ap (λ x. n * x % 2 ^ 64) (four_power k) ∙ mod-eq_of_lt (omega arith) ∙ ap (λ x. n * 4 ^ x) e

pub returns : goal.returns
returns c = record { value = shifted c.args.self.number c.args.self.level c.min.result (omega arith) c.min.ensures }

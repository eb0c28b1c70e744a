-- The test finds a stripe where the square has one; the facts of the store then come from those of every exact store.
use Rattle.std.specs.Prelude.{◌≡◌, ℕ, ◌+◌, ◌-◌, ◌*◌, ◌/◌, ◌%◌, ◌<◌, ◌≤◌, Decides}
use Rattle.std.proofs.Common.{ap, ◌∙◌, mul-le-mul_right, arith}
use Rattle.std.proofs.lemmas.Nat.{div-add-mod', mod-mul-add, le-div}
use Rattle.std.proofs.lemmas.Bool.{leb-true, le-leb}
use Rattle.board.specs.Morton.{x_of, y_of, code}
use Rattle.board.specs.Spans.{first, last}
use Rattle.board.specs.Squares.{OnBoard}
use Rattle.board.specs.CodeFacts.Codes.{codes_are_exact}
use Rattle.store.specs.Stores.{StoreFacts}
use Rattle.store.specs.Exact.{Shares, Exactly}
use Rattle.store.specs.BlockFacts.{rows_ordered, cell_of, ends_of}
use Rattle.store.specs.ExactFacts.{exactly_tested, facts_of}
use Rattle.stripes.specs.Patterns.{OnStripe, crossed, striped}

-- ---- multiples of p

-- the last multiple up to b
last_multiple : (p b : ℕ) → 0 < p → (b - b % p) % p ≡ 0
last_multiple p b h =
    let e : b - b % p ≡ b / p * p + 0 = omega (arith, div-add-mod' b p) in
    ap (λ x. x % p) e ∙ mod-mul-add (b / p) p 0 h

-- no later one is a multiple
no_later : (p b x : ℕ) → 0 < p → x % p ≡ 0 → x ≤ b → x ≤ b - b % p
no_later p b x h m k =
    let e = div-add-mod' x p in
    let d = div-add-mod' b p in
    let q : x / p ≤ b / p = le-div (x / p) b p h (omega arith) in
    let w = mul-le-mul_right p q in
    omega arith

-- ---- squares

module _ (p : ℕ) (h : 0 < p) where
  decides_crossed : (l n : ℕ) → OnBoard l n → Decides (crossed p l n) (Shares (OnStripe p) l n)
  decides_crossed l n b = (
    λ t.
        let a = leb-true (first l (x_of n)) (last l (x_of n) - last l (x_of n) % p) t in
        let x = last l (x_of n) - last l (x_of n) % p in
        let y = first l (y_of n) in
        (code x y, ap (λ v. v % p) (codes_are_exact.column x y) ∙ last_multiple p (last l (x_of n)) h, cell_of l n b x y a (omega arith) (omega arith) (rows_ordered l n b)),
    λ s.
        let e = ends_of l n b s.0 s.2 in
        let m = no_later p (last l (x_of n)) (x_of s.0) h s.1 e.1 in
        le-leb (first l (x_of n)) (last l (x_of n) - last l (x_of n) % p) (omega arith),
  )

  pub exactly_striped : Exactly (OnStripe p) (striped p)
  exactly_striped = exactly_tested (OnStripe p) (crossed p) decides_crossed

  pub striped_facts : StoreFacts (striped p)
  striped_facts = facts_of (OnStripe p) (striped p) exactly_striped

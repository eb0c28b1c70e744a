-- Orders of one's own: what they answer, and why they tie just where `==` answers true, which `Ord` asks of them.
use Rattle.std.specs.Prelude.{◌≡◌, ◌==◌, ◌&&◌, ℕ, Bool}
use Rattle.std.proofs.Common.{Less, Equal, Greater, Decides, is_eq, sym, refl, ap, ◌∙◌, subst, ap₂, ◌<◌, arith}
use Rattle.std.specs.declared.cmp.Ordering.{Ordering}
use Rattle.std.specs.Bool.{one_answer}
use Rattle.std.specs.Cmp.{IsTotalOrder, tied_itself, Equal-is, nat_cmp_is, ranks}
use Rattle.std.specs.Ordering.{MatchOrdering, ordering_then, nat_cmp}
use Rattle.std.proofs.lemmas.Bool.Decides.{Decides-and, Decides-eqb, Decides-like}
use Rattle.board.specs.declared.square.Square.{Square}

pub less : (a b : ℕ) → a < b → nat_cmp a b ≡ Less
less a b h = sym (nat_cmp_is a b Less h)

pub tied : (a b : ℕ) → a ≡ b → nat_cmp a b ≡ Equal
tied a b h = sym (nat_cmp_is a b Equal h)

pub untied : (a b : ℕ) → nat_cmp a b ≡ Equal → a ≡ b
untied a b e = subst (λ r. MatchOrdering r (a < b) (a ≡ b) (b < a)) e (ranks a b)

-- both tie where one after the other ties
pub both_tie : (a b : Ordering) → ordering_then a b ≡ Equal → (a ≡ Equal) × (b ≡ Equal)
both_tie Less b e = let z : ◌≡◌ {A = ℕ} 0 1 = cc in absurd (omega arith)
both_tie Equal b e = (refl, e)
both_tie Greater b e = let z : ◌≡◌ {A = ℕ} 0 1 = cc in absurd (omega arith)

-- `==` tells equal values, and the order R ties no two others
pub ties_where_equal : {K : Type 0} {E : K → K → Bool} {R : K → K → Ordering} → IsTotalOrder R → ((x y : K) → Decides (E x y) (x ≡ y)) → ((x y : K) → R x y ≡ Equal → x ≡ y) → (x y : K) → E x y ≡ is_eq (R x y)
ties_where_equal {K} {E} {R} o same anti x y =
    one_answer (E x y) (is_eq (R x y)) (Decides-like (E x y) (λ e. ap (λ z. R z y) e ∙ tied_itself o y) (anti x y) (same x y)) (Equal-is (R x y))

-- the `==` of squares
pub squares_equal : (x y : Square) → Decides ((x.level == y.level) && (x.number == y.number)) (x ≡ y)
squares_equal x y =
    Decides-like _
    (λ e. ap₂ (λ (l n : ℕ). let s : Square = record { level = l; number = n } in s) e.0 e.1)
    (λ e. (ap (λ (s : Square). s.level) e, ap (λ (s : Square). s.number) e))
    (Decides-and _ _ (Decides-eqb x.level y.level) (Decides-eqb x.number y.number))

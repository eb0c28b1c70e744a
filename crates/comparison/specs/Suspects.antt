-- The order of suspects: the greater key first, then the smaller first code, then the larger square, then the smaller partner.
use Rattle.std.specs.Prelude.{◌≡◌, ◌<◌}
use Rattle.std.specs.declared.cmp.Ordering.TheVariants.{Less, Equal}
use Rattle.std.specs.declared.cmp.Ordering.{Ordering}
use Rattle.std.specs.Cmp.{IsTotalOrder, nat_cmp_total, then_total, on_total, back_total}
use Rattle.std.specs.Ordering.{nat_cmp, then_cmp, on, flip_args}
use Rattle.board.specs.SquareOrder.{first_code, by_place, squares_total}
use Rattle.comparison.specs.declared.suspect.Suspect.{Suspect}

-- how x ranks beside y: by the key, turned, then by the place of the square, then by the partner
abbrev pub before : Suspect → Suspect → Ordering
before =
    then_cmp (then_cmp (flip_args (on (λ (x : Suspect). x.key) nat_cmp)) (on (λ (x : Suspect). x.square) by_place)) (on (λ (x : Suspect). x.partner) nat_cmp)

-- it is a total order
abbrev pub suspects : IsTotalOrder before
suspects =
    then_total (then_total (back_total (on_total (λ (x : Suspect). x.key) nat_cmp_total)) (on_total (λ (x : Suspect). x.square) squares_total))
    (on_total (λ (x : Suspect). x.partner) nat_cmp_total)

-- it goes by the key, the greatest first; then by the first code; then by the level, the highest first; then by the partner; and calls no two suspects equal
pub record SuspectsAreOrdered : Type 0 where
  pub total : IsTotalOrder before
  pub by_key : (x y : Suspect) → y.key < x.key → before x y ≡ Less
  pub by_first_code : (x y : Suspect) → y.key ≡ x.key → first_code x.square < first_code y.square → before x y ≡ Less
  pub by_level : (x y : Suspect) → y.key ≡ x.key → first_code x.square ≡ first_code y.square → y.square.level < x.square.level → before x y ≡ Less
  pub by_partner : (x y : Suspect) → y.key ≡ x.key → first_code x.square ≡ first_code y.square → y.square.level ≡ x.square.level → x.partner < y.partner → before x y ≡ Less
  pub no_two_equal : (x y : Suspect) → before x y ≡ Equal → x ≡ y

-- Rectangles of cells.
use Rattle.std.specs.Prelude.{◌≡◌, ℕ, ◌<◌, ◌≤◌, Bool, cond, ◌&&◌, ◌⊎◌, nat_le}
use Rattle.board.specs.Morton.{x_of, y_of}
use Rattle.board.specs.Spans.{first, last}
use Rattle.store.specs.declared.rectangle.Place.{Place}
use Rattle.store.specs.declared.rectangle.Place.TheVariants.{Apart, Across, Within}
use Rattle.store.specs.declared.rectangle.Rectangle.{Rectangle}
use Rattle.store.specs.declared.rectangle.RectangleFault.{RectangleFault}
use Rattle.store.specs.declared.rectangle.RectangleFault.TheVariants.{WestAboveEast, SouthAboveNorth}
use Rattle.store.specs.declared.store.Answer.{Answer}
use Rattle.store.specs.Exact.{on_board}
use Rattle.store.specs.Places.{filled_at}

-- the cell c is one of the rectangle's
abbrev pub Covers : Rectangle → ℕ → Type 0
Covers r c =
    (r.columns.first ≤ x_of c) × (x_of c ≤ r.columns.last) × (r.rows.first ≤ y_of c) × (y_of c ≤ r.rows.last)

-- the rectangle has these ends
pub record Ends (west south east north : ℕ) (r : Rectangle) : Type 0 where
  pub west_end : r.columns.first ≡ west
  pub south_end : r.rows.first ≡ south
  pub east_end : r.columns.last ≡ east
  pub north_end : r.rows.last ≡ north

-- the number and the place of each fault
abbrev pub rectangle_numbered : RectangleFault → ℕ × ℕ
rectangle_numbered WestAboveEast = (14, 0)
rectangle_numbered SouthAboveNorth = (14, 0)

-- ends that are refused, with this number and place
abbrev pub Refuses : ℕ → ℕ → ℕ → ℕ → ℕ × ℕ → Type 0
Refuses west south east north f = ((east < west) ⊎ (north < south)) × (f ≡ (14, 0))

-- what each fault says of the ends; west and east are looked at first
abbrev pub OutOfOrder : ℕ → ℕ → ℕ → ℕ → RectangleFault → Type 0
OutOfOrder west south east north WestAboveEast = east < west
OutOfOrder west south east north SouthAboveNorth = (west ≤ east) × (north < south)

-- the span from a to b shares a value with the one from c to d
abbrev pub meets : ℕ → ℕ → ℕ → ℕ → Bool
meets a b c d = nat_le a d && nat_le c b

-- the span from a to b lies in the one from c to d
abbrev pub lies : ℕ → ℕ → ℕ → ℕ → Bool
lies a b c d = nat_le c a && nat_le b d

-- a test of the columns of two rectangles, and of their rows
abbrev pub both_axes : (ℕ → ℕ → ℕ → ℕ → Bool) → Rectangle → Rectangle → Bool
both_axes test a b =
    test a.columns.first a.columns.last b.columns.first b.columns.last
    && test a.rows.first a.rows.last b.rows.first b.rows.last

-- the same of the square n of level l
abbrev pub on_square : (ℕ → ℕ → ℕ → ℕ → Bool) → ℕ → ℕ → Rectangle → Bool
on_square test l n r =
    test (first l (x_of n)) (last l (x_of n)) r.columns.first r.columns.last
    && test (first l (y_of n)) (last l (y_of n)) r.rows.first r.rows.last

-- where the square n of level l lies
unfoldable pub located : Rectangle → ℕ → ℕ → Place
located r l n = cond (on_board l n && on_square meets l n r) (cond (on_square lies l n r) Within Across) Apart

-- the table of a rectangle
abbrev pub filled : Rectangle → ℕ → ℕ → Answer
filled r l n = filled_at (located r l n)

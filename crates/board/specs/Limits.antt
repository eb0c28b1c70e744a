-- The size of the board, named once.
use Rattle.std.specs.Prelude.{ℕ, ◌^◌}

-- the level of the whole board; a cell is a square of level 0
abbrev pub top : ℕ
top = 16

-- how many quarters a square has
abbrev pub parts : ℕ
parts = 4

-- the last column, and the last row
abbrev pub edge : ℕ
edge = 65535

-- how many codes there are
abbrev pub codes : ℕ
codes = 2 ^ 32

-- no amount is greater
abbrev pub most : ℕ
most = 2 ^ 40

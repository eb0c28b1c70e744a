-- Trees worked out by hand.
use Rattle.std.specs.Prelude.{◌≡◌, [], ◌∷◌}
use Rattle.tree.specs.Bitmaps.{bits, cells, encode_t, encode_l, Valid}
use Rattle.tree.specs.Openings.{Opens}
use Rattle.tree.specs.Writing.{Writable}

-- the cells 3 and 28, at height 3
abbrev pub Example : Type 0
Example = Valid 3 (bits (0x13 ∷ 0x08 ∷ []) 12) (bits (0x18 ∷ []) 8)
    × (cells 3 (bits (0x13 ∷ 0x08 ∷ []) 12) (bits (0x18 ∷ []) 8) ≡ 3 ∷ 28 ∷ [])
    × (encode_t 3 (3 ∷ 28 ∷ []) ≡ bits (0x13 ∷ 0x08 ∷ []) 12)
    × (encode_l 3 (3 ∷ 28 ∷ []) ≡ bits (0x18 ∷ []) 8)

abbrev pub EmptyExample : Type 0
EmptyExample = Valid 2 (bits (0 ∷ []) 4) [] × (cells 2 (bits (0 ∷ []) 4) [] ≡ [])

-- of height 1 the last level is the first
abbrev pub FlatExample : Type 0
FlatExample = Valid 1 [] (bits (0x0a ∷ []) 4) × (cells 1 [] (bits (0x0a ∷ []) 4) ≡ 1 ∷ 3 ∷ [])

-- the checks refuse: a block with no 1, a level too short
abbrev pub RefusedExamples : Type 0
RefusedExamples = (Valid 2 (bits (0x01 ∷ []) 4) (bits (0x00 ∷ []) 4) → ⊥) × (Valid 2 (bits (0x03 ∷ []) 4) (bits (0x01 ∷ []) 4) → ⊥)

-- the first tree is opened, and its cells are written
abbrev pub OpenedExample : Type 0
OpenedExample = Opens 3 (0x13 ∷ 0x08 ∷ []) 12 (0x18 ∷ []) 8 (0 ∷ [])

abbrev pub WritableExample : Type 0
WritableExample = Writable (3 ∷ 28 ∷ []) 3 2 1

-- What a reader of a tree keeps: two bitmaps, and how many ones stand before each 512th bit of the first.
use Rattle.std.specs.Prelude.{◌≡◌, ℕ, ◌+◌, ◌*◌, ◌/◌, ◌<◌, ◌≤◌, false, List, length, slice_index}
use Rattle.tree.specs.Bitmaps.{bit, bits, ones}

-- the most bits that a bitmap may have
abbrev pub most_bits : ℕ
most_bits = 4194304

-- how many bits of T stand between two counts
abbrev pub spacing : ℕ
spacing = 512

abbrev pub ones_before : List ℕ → ℕ → ℕ
ones_before bytes n = ones (bits bytes n)

-- the number of ones before bit 512 * j, for each j
abbrev pub Directory : List ℕ → ℕ → List ℕ → Type 0
Directory t n counts = (n / spacing < length counts) × ((j : ℕ) → j ≤ n / spacing → slice_index counts j ≡ ones_before t (spacing * j))

-- a bitmap of n bits has as many bytes as it needs, and not too many bits
abbrev pub Bitmap : List ℕ → ℕ → Type 0
Bitmap bytes n = (length bytes ≡ (n + 7) / 8) × (n ≤ most_bits)

-- the bits behind the first n are 0
abbrev pub Spared : List ℕ → ℕ → Type 0
Spared bytes n = (p : ℕ) → n ≤ p → p < 8 * length bytes → bit bytes p ≡ false

-- Which rule is broken first, and the number and the place of each fault.
use Rattle.std.specs.Prelude.{◌≡◌, ℕ, ◌*◌, ◌/◌, ◌^◌, ◌<◌, ◌≤◌, ◌⊎◌, Bool, List, ◌++◌, length, ◌≢◌, slice_index}
use Rattle.board.specs.Limits.{top, parts}
use Rattle.board.specs.Lists.{ListRefused, list_numbered}
use Rattle.tree.specs.declared.fault.Part.{Part}
use Rattle.tree.specs.declared.fault.Part.TheVariants.{T as PartT, L as PartL}
use Rattle.tree.specs.declared.fault.TreeFault.{TreeFault}
use Rattle.tree.specs.declared.fault.TreeFault.TheVariants.{Height, Size, Levels, EmptyBlock, SpareBit, ShortDirectory, WrongCount}
use Rattle.tree.specs.declared.fault.WriterFault.{WriterFault}
use Rattle.tree.specs.declared.fault.WriterFault.TheVariants.{Height as NoHeight, List as OfList, TooLarge, NoRoom}
use Rattle.tree.specs.Bitmaps.{bits, encode_t, encode_l, Filled, Sized}
use Rattle.tree.specs.Reader.{Bitmap, ones_before, spacing, most_bits, Spared}

-- T comes first
abbrev pub part_place : Part → ℕ
part_place PartT = 0
part_place PartL = 1

-- the number and the place of each fault
abbrev pub tree_numbered : TreeFault → ℕ × ℕ
tree_numbered Height = (1, 0)
tree_numbered Size = (2, 0)
tree_numbered Levels = (3, 0)
tree_numbered (EmptyBlock p) = (4, p)
tree_numbered (SpareBit b) = (5, part_place b)
tree_numbered (ShortDirectory n) = (6, n)
tree_numbered (WrongCount j) = (6, j)

abbrev pub writer_numbered : WriterFault → ℕ × ℕ
writer_numbered NoHeight = (1, 0)
writer_numbered (OfList f) = list_numbered f
writer_numbered (TooLarge i) = (8, i)
writer_numbered (NoRoom b) = (9, part_place b)

-- rule n is broken at place p, where B says so; and no rule before it is, nor is it at a smaller place
abbrev pub First : (ℕ → ℕ → Type 0) → ℕ × ℕ → Type 0
First B f = B f.0 f.1 × ((n p : ℕ) → (n < f.0) ⊎ ((n ≡ f.0) × (p < f.1)) → B n p → ⊥)

-- a tree's height
abbrev pub High : ℕ → Type 0
High height = (1 ≤ height) × (height ≤ top)

-- a block below the first level begins at bit p, and has no 1
pub record Hollow (bs : List Bool) (p : ℕ) : Type 0 where
  pub block : ℕ
  pub begins : p ≡ parts * block
  pub below : 0 < block
  pub within : parts * block < length bs
  pub empty : Filled bs block → ⊥

-- the rules for filling a directory: rule n is broken at place p
pub data DirectoryBreaks (t : List ℕ) (bits_of_t : ℕ) (counts : List ℕ) (n p : ℕ) : Type 0 where
  size : n ≡ 2 → p ≡ 0 → (Bitmap t bits_of_t → ⊥) → DirectoryBreaks t bits_of_t counts n p
  short : n ≡ 6 → p ≡ length counts → length counts ≤ bits_of_t / spacing → DirectoryBreaks t bits_of_t counts n p

-- the rules for opening a tree: rule n is broken at place p
pub data TreeBreaks (height : ℕ) (t : List ℕ) (bits_of_t : ℕ) (l : List ℕ) (bits_of_l : ℕ) (counts : List ℕ) (n p : ℕ) : Type 0 where
  height : n ≡ 1 → p ≡ 0 → (High height → ⊥) → TreeBreaks height t bits_of_t l bits_of_l counts n p
  size : n ≡ 2 → p ≡ 0 → (Bitmap t bits_of_t × Bitmap l bits_of_l → ⊥) → TreeBreaks height t bits_of_t l bits_of_l counts n p
  levels : n ≡ 3 → p ≡ 0 → (Sized height (bits t bits_of_t) (bits l bits_of_l) → ⊥) → TreeBreaks height t bits_of_t l bits_of_l counts n p
  hollow : n ≡ 4 → Hollow (bits t bits_of_t ++ bits l bits_of_l) p → TreeBreaks height t bits_of_t l bits_of_l counts n p
  spare_t : n ≡ 5 → p ≡ 0 → (Spared t bits_of_t → ⊥) → TreeBreaks height t bits_of_t l bits_of_l counts n p
  spare_l : n ≡ 5 → p ≡ 1 → (Spared l bits_of_l → ⊥) → TreeBreaks height t bits_of_t l bits_of_l counts n p
  short : n ≡ 6 → p ≡ length counts → length counts ≤ bits_of_t / spacing → TreeBreaks height t bits_of_t l bits_of_l counts n p
  wrong : n ≡ 6 → bits_of_t / spacing < length counts → p ≤ bits_of_t / spacing → (slice_index counts p ≢ ones_before t (spacing * p))
      → TreeBreaks height t bits_of_t l bits_of_l counts n p

-- so many bytes are too few for so many bits, or the bits are too many
abbrev pub Cramped : ℕ → ℕ → Type 0
Cramped bytes n = (8 * bytes < n) ⊎ (most_bits < n)

-- the rules for writing a tree into buffers of so many bytes: rule n is broken at place p
pub data WriterBreaks (codes : List ℕ) (height bytes_of_t bytes_of_l n p : ℕ) : Type 0 where
  height : n ≡ 1 → p ≡ 0 → (High height → ⊥) → WriterBreaks codes height bytes_of_t bytes_of_l n p
  list : ListRefused codes (n, p) → WriterBreaks codes height bytes_of_t bytes_of_l n p
  large : n ≡ 8 → p < length codes → parts ^ height ≤ slice_index codes p → WriterBreaks codes height bytes_of_t bytes_of_l n p
  room_t : n ≡ 9 → p ≡ 0 → Cramped bytes_of_t (length (encode_t height codes)) → WriterBreaks codes height bytes_of_t bytes_of_l n p
  room_l : n ≡ 9 → p ≡ 1 → Cramped bytes_of_l (length (encode_l height codes)) → WriterBreaks codes height bytes_of_t bytes_of_l n p

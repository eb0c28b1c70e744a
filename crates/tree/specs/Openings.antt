-- Which bitmaps are opened, and what the opened reader holds.
use Rattle.std.specs.Prelude.{◌≡◌, ℕ, List, ◌++◌}
use Rattle.tree.specs.Bitmaps.{AllFilledBelow, bits, encode_t, encode_l, Sized}
use Rattle.tree.specs.Faults.{High}
use Rattle.tree.specs.Laws.{Listed}
use Rattle.tree.specs.Reader.{Bitmap, Directory, Spared}

-- no rule is broken: each level has the bits that it demands, each block below the first a 1, spare bits are 0, and the directory is right
pub record Opens (height : ℕ) (t : List ℕ) (bits_of_t : ℕ) (l : List ℕ) (bits_of_l : ℕ) (counts : List ℕ) : Type 0 where
  pub high : High height
  pub upper : Bitmap t bits_of_t
  pub lower : Bitmap l bits_of_l
  pub sized : Sized height (bits t bits_of_t) (bits l bits_of_l)
  pub filled : AllFilledBelow (bits t bits_of_t ++ bits l bits_of_l)
  pub upper_spare : Spared t bits_of_t
  pub lower_spare : Spared l bits_of_l
  pub counted : Directory t bits_of_t counts

-- the bitmaps are the bits of these cells, with spare bits 0 and a right directory
pub record BitsOf (codes : List ℕ) (height : ℕ) (t : List ℕ) (bits_of_t : ℕ) (l : List ℕ) (bits_of_l : ℕ) (counts : List ℕ) : Type 0 where
  pub listed : Listed height codes
  pub high : High height
  pub upper : Bitmap t bits_of_t
  pub lower : Bitmap l bits_of_l
  pub t_is : bits t bits_of_t ≡ encode_t height codes
  pub l_is : bits l bits_of_l ≡ encode_l height codes
  pub upper_spare : Spared t bits_of_t
  pub lower_spare : Spared l bits_of_l
  pub counted : Directory t bits_of_t counts

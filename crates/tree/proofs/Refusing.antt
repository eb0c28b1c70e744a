-- Which rule is broken first.
use Rattle.std.proofs.Common.{◌≡◌, ℕ, ◌<◌, ◌⊎◌, List, ◌++◌, refl, inl, inr, rules, arith}
use Rattle.tree.specs.Bitmaps.{AllFilledBelow, bits, Sized}
use Rattle.tree.specs.Faults.{First, High, Hollow, TreeBreaks}
use Rattle.tree.specs.Faults.TreeBreaks.{height, size, levels, hollow, spare_t, spare_l, short, wrong}
use Rattle.tree.specs.Reader.{Bitmap, Spared}

module _ (h : ℕ) (t : List ℕ) (tn : ℕ) (l : List ℕ) (ln : ℕ) (counts : List ℕ) (high : High h) (upper : Bitmap t tn) (lower : Bitmap l ln)
    (sized : Sized h (bits t tn) (bits l ln)) where
  -- a block has no 1, and none before it
  pub hollow_first : (p : ℕ) → Hollow (bits t tn ++ bits l ln) p → ((q : ℕ) → q < p → Hollow (bits t tn ++ bits l ln) q → ⊥) → First (TreeBreaks h t tn l ln counts) (4, p)
  hollow_first p w before = (hollow refl w, go)
    where
      go : (n q : ℕ) → (n < 4) ⊎ ((n ≡ 4) × (q < p)) → TreeBreaks h t tn l ln counts n q → ⊥
      go n q lt (height e z b) = b high
      go n q lt (size e z b) = b (upper, lower)
      go n q lt (levels e z b) = b sized
      go n q (inl lt) (hollow e b) = omega arith
      go n q (inr r) (hollow e b) = before q r.1 b
      go n q lt (spare_t e z b) = search rules
      go n q lt (spare_l e z b) = search rules
      go n q lt (short e z b) = search rules
      go n q lt (wrong e r z b) = search rules

  -- a spare bit of L is 1, and none of T
  pub spare_first : AllFilledBelow (bits t tn ++ bits l ln) → Spared t tn → (Spared l ln → ⊥) → First (TreeBreaks h t tn l ln counts) (5, 1)
  spare_first filled clear spare = search rules

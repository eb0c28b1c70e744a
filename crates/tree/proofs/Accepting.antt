-- What is opened are the bits of sets, and nothing else.
use Rattle.std.proofs.Common.{◌≡◌, ℕ, List, sym, ◌∙◌, subst, ap₂, arith}
use Rattle.tree.specs.Bitmaps.{bits, cells, encode_t, Valid}
use Rattle.tree.specs.Faults.{TreeBreaks}
use Rattle.tree.specs.Faults.TreeBreaks.{height, size, levels, hollow, spare_t, spare_l, short, wrong}
use Rattle.tree.specs.Openings.{BitsOf, Opens}
use Rattle.tree.proofs.Levels.{reads_a_list, read_writes_back}
use Rattle.tree.proofs.Written.{written_reads_back}

module _ (h : ℕ) (t : List ℕ) (tn : ℕ) (l : List ℕ) (ln : ℕ) (counts : List ℕ) where
  pub valid_of : Opens h t tn l ln counts → Valid h (bits t tn) (bits l ln)
  valid_of o = (omega (arith, o.high), o.sized, o.filled)

  -- an opened tree is the bits of its cells
  pub opened_bits : Opens h t tn l ln counts → BitsOf (cells h (bits t tn) (bits l ln)) h t tn l ln counts
  opened_bits o =
      let v = valid_of o in
      let r = read_writes_back h (bits t tn) (bits l ln) v in
      record {
        listed = reads_a_list h (bits t tn) (bits l ln) v;
        high = o.high;
        upper = o.upper;
        lower = o.lower;
        t_is = r.0;
        l_is = r.1;
        upper_spare = o.upper_spare;
        lower_spare = o.lower_spare;
        counted = o.counted;
      }

  module _ (codes : List ℕ) (b : BitsOf codes h t tn l ln counts) where
    valid_bits : Valid h (bits t tn) (bits l ln)
    valid_bits =
        let w = written_reads_back h codes (omega (arith, b.high)) b.listed in
        subst (λ x. Valid h x (bits l ln)) (sym b.t_is) (subst (Valid h (encode_t h codes)) (sym b.l_is) w.0)

    -- the bits of a set are opened, as that set
    pub bits_open : Opens h t tn l ln counts
    bits_open =
        let v = valid_bits in
        record {
          high = b.high;
          upper = b.upper;
          lower = b.lower;
          sized = v.1;
          filled = v.2;
          upper_spare = b.upper_spare;
          lower_spare = b.lower_spare;
          counted = b.counted;
        }

    pub bits_cells : cells h (bits t tn) (bits l ln) ≡ codes
    bits_cells =
        let w = written_reads_back h codes (omega (arith, b.high)) b.listed in
        ap₂ (cells h) b.t_is b.l_is ∙ w.1

  -- then no rule is broken
  pub unbroken : Opens h t tn l ln counts → (n p : ℕ) → TreeBreaks h t tn l ln counts n p → ⊥
  unbroken o n p (height e z b) = b o.high
  unbroken o n p (size e z b) = b (o.upper, o.lower)
  unbroken o n p (levels e z b) = b o.sized
  unbroken o n p (hollow e b) = b.empty (o.filled b.block b.below b.within)
  unbroken o n p (spare_t e z b) = b o.upper_spare
  unbroken o n p (spare_l e z b) = b o.lower_spare
  unbroken o n p (short e z b) = omega (arith, o.counted.0)
  unbroken o n p (wrong e r z b) = b (o.counted.1 p z)

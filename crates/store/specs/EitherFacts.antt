-- What an either owes: proved once, for any two stores.
use Rattle.std.specs.Prelude.{◌≡◌, ℕ, ◌+◌, ◌*◌, ◌⊎◌, refl}
use Rattle.std.proofs.Common.{inl, inr, ⊎_elim, ap₂}
use Rattle.std.proofs.lemmas.Bool.{false≢true}
use Rattle.board.specs.Limits.{parts}
use Rattle.store.specs.declared.store.Answer.{Answer}
use Rattle.store.specs.declared.store.Answer.TheVariants.{Empty, Occupied, Unknown}
use Rattle.store.specs.Stores.{Counts, Holds, StoreFacts}
use Rattle.store.specs.Exact.{HoldsSet}
use Rattle.store.specs.Eithers.{joined_at, joined, Joins}

-- ---- answers

counts_left : (a b : Answer) → Counts a → Counts (joined_at a b)
counts_left Empty b y = absurd (false≢true y)
counts_left Occupied b y = refl
counts_left Unknown b y = absurd (false≢true y)

counts_right : (a b : Answer) → Counts b → Counts (joined_at a b)
counts_right Empty b y = y
counts_right Occupied b y = refl
counts_right Unknown Empty y = y
counts_right Unknown Occupied y = y
counts_right Unknown Unknown y = y

counts_either : (a b : Answer) → Counts a ⊎ Counts b → Counts (joined_at a b)
counts_either a b (inl y) = counts_left a b y
counts_either a b (inr y) = counts_right a b y

either_counts : (a b : Answer) → Counts (joined_at a b) → Counts a ⊎ Counts b
either_counts Empty b y = inr y
either_counts Occupied b y = inl y
either_counts Unknown Empty y = inl y
either_counts Unknown Occupied y = inr y
either_counts Unknown Unknown y = inl y

both_empty : (a b : Answer) → joined_at a b ≡ Empty → (a ≡ Empty) × (b ≡ Empty)
both_empty Empty b e = (refl, e)
both_empty Occupied b e = cc
both_empty Unknown Empty e = cc
both_empty Unknown Occupied e = cc
both_empty Unknown Unknown e = cc

one_unknown : (a b : Answer) → joined_at a b ≡ Unknown → (a ≡ Unknown) ⊎ (b ≡ Unknown)
one_unknown Empty b e = inr e
one_unknown Occupied b e = cc
one_unknown Unknown b e = inl refl

else_unknown : (a b : Answer) → (Counts a → ⊥) → (Counts b → ⊥) → ((a ≡ Empty) × (b ≡ Empty) → ⊥) → joined_at a b ≡ Unknown
else_unknown Empty Empty f g h = absurd (h (refl, refl))
else_unknown Empty Occupied f g h = absurd (g refl)
else_unknown Empty Unknown f g h = refl
else_unknown Occupied b f g h = absurd (f refl)
else_unknown Unknown Empty f g h = refl
else_unknown Unknown Occupied f g h = absurd (g refl)
else_unknown Unknown Unknown f g h = refl

pub joins : (s t : ℕ → ℕ → Answer) → Joins s t (joined s t)
joins s t = record {
  counted = λ l n y. counts_either (s l n) (t l n) y;
  empty = λ l n a b. ap₂ joined_at a b;
  unknown = λ l n f g h. else_unknown (s l n) (t l n) f g h;
}

-- ---- tables

pub either_facts : (s t : ℕ → ℕ → Answer) → StoreFacts s → StoreFacts t → StoreFacts (joined s t)
either_facts s t f g = record {
  cell_known = λ n e. ⊎_elim (f.cell_known n) (g.cell_known n) (one_unknown (s 0 n) (t 0 n) e);
  empty_quarters = λ l n k h j e.
      let b = both_empty (s (l + 1) n) (t (l + 1) n) e in
      ap₂ joined_at (f.empty_quarters l n k h j b.0) (g.empty_quarters l n k h j b.1);
  counted_quarter = λ l n h y.
      ⊎_elim
      (λ a. let q = f.counted_quarter l n h a in (q.0, q.1, counts_left (s l (parts * n + q.0)) (t l (parts * n + q.0)) q.2))
      (λ a. let q = g.counted_quarter l n h a in (q.0, q.1, counts_right (s l (parts * n + q.0)) (t l (parts * n + q.0)) q.2))
      (either_counts (s (l + 1) n) (t (l + 1) n) y);
  off_board = λ l n o. ap₂ joined_at (f.off_board l n o) (g.off_board l n o);
}

-- the cells held are those that one of the stores holds
pub either_set : (s t : ℕ → ℕ → Answer) → HoldsSet (λ c. Holds s c ⊎ Holds t c) (joined s t)
either_set s t = record {
  all = λ c h y. counts_either (s 0 c) (t 0 c) y;
  only = λ c y. either_counts (s 0 c) (t 0 c) y;
}

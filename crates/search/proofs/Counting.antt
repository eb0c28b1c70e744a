-- Squares that count, and squares that are empty.
use Rattle.std.proofs.Common.{◌≡◌, ℕ, ◌-◌, ◌^◌, ◌<◌, ◌≤◌, ◌⊎◌, sym, ap, ◌∙◌, inl, inr, arith}
use native.Mathlib.Nat.{div-eq_of_lt}
use Rattle.std.proofs.lemmas.Bool.{false≢true, cases_lt}
use Rattle.board.specs.Squares.{OnBoard}
use Rattle.store.specs.declared.store.Answer.{Answer}
use Rattle.store.specs.declared.store.Answer.TheVariants.{Empty}
use Rattle.store.specs.Stores.{counts, Counts, StoreFacts}
use Rattle.board.specs.Limits.{parts, top}
use Rattle.search.specs.Descents.{Under}
use Rattle.search.proofs.Below.{under_down}

pub not_both : (x : Answer) → x ≡ Empty → Counts x → ⊥
not_both x e o = false≢true (sym (ap counts e) ∙ o)

module _ (t : ℕ → ℕ → Answer) (f : StoreFacts t) where
  -- all that lies in an empty square is empty
  pub empty_under : (l m n q : ℕ) → l ≤ m → m ≤ top → t m n ≡ Empty → Under l m n q → t l q ≡ Empty
  empty_under l m n q h b e u = under_down l q (λ i j. t i j ≡ Empty) (λ i j k _ i16 k4 z. f.empty_quarters i j k i16 k4 z) m n h b u e

  -- what counts is on the board
  pub counted_on_board : (l q : ℕ) → Counts (t l q) → OnBoard l q
  counted_on_board l q o = go (cases_lt top l) (cases_lt q (parts ^ (top - l)))
    where
      go : (top < l) ⊎ (l ≤ top) → (q < parts ^ (top - l)) ⊎ (parts ^ (top - l) ≤ q) → OnBoard l q
      go (inl h) k = absurd (not_both (t l q) (f.off_board l q (λ b. omega (arith, b.0))) o)
      go (inr h) (inl k) = (h, k)
      go (inr h) (inr k) = absurd (not_both (t l q) (f.off_board l q (λ b. omega (arith, b.1))) o)

  pub counted_under : (l q : ℕ) → Counts (t l q) → Under l top 0 q
  counted_under l q o = div-eq_of_lt (counted_on_board l q o).1

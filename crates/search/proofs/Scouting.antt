-- The first cell, as a walk finds it.
use Rattle.std.proofs.Common.{◌≡◌, ℕ, ◌<◌, ◌≤◌, false, ◌⊎◌, is_some, Some, None, Option, MatchOption, IsSomeAnd, sym, refl, ◌∙◌, subst, ap₂, inl, inr}
use Rattle.std.proofs.lemmas.Bool.{false≢true, cases_lt}
use Rattle.store.specs.declared.store.Answer.{Answer}
use Rattle.store.specs.Stores.{Holds}
use Rattle.board.specs.Findings.{code_of}
use Rattle.board.specs.Morton.{code, x_of, y_of}
use Rattle.board.specs.CodeFacts.Codes.{codes_are_exact}
use Rattle.board.specs.declared.cell.Cell.{Cell}
use Rattle.search.specs.Firsts.{NoneHeld, FirstHeld, FoundFirst, Searched}

pub unset : (r : Option ℕ) → false ≡ is_some r → r ≡ None
unset None e = refl
unset (Some f) e = absurd (false≢true e)

module _ (t : ℕ → ℕ → Answer) where
  pub searched_empty : (r : Option ℕ) (c : ℕ) → (Holds t c → ⊥) → Searched t r c
  searched_empty None c h = h
  searched_empty (Some f) c h = tt

  -- the cell is held, and all before it are searched
  pub first_found : (r : Option ℕ) (f : ℕ) → r ≡ None → Holds t f → ((c : ℕ) → c < f → Searched t r c) → FirstHeld t f
  first_found r f e h s = record { held = h; first = λ c o. go c o (cases_lt c f) }
    where
      go : (c : ℕ) → Holds t c → (c < f) ⊎ (f ≤ c) → f ≤ c
      go c o (inl lt) = absurd (subst (λ r. Searched t r c) e (s c lt) o)
      go c o (inr le) = le

  -- the whole board was searched, and the code that was found is answered as a cell
  pub cell_found : (found : Option ℕ) (r : Option Cell) (P : ℕ → Cell → Type 0) → MatchOption found (r ≡ None) (λ n. IsSomeAnd r (P n)) → ((n : ℕ) (c : Cell) → P n c → (c.x ≡ x_of n) × (c.y ≡ y_of n))
      → FoundFirst t found → ((c : ℕ) → Holds t c → Searched t found c) → MatchOption r (NoneHeld t) (λ c. FirstHeld t (code_of c))
  cell_found None r P m each f s = subst (λ r. MatchOption r (NoneHeld t) (λ c. FirstHeld t (code_of c))) (sym m) (λ c o. s c o o)
  cell_found (Some n) None P m each f s = absurd m
  cell_found (Some n) (Some c) P m each f s =
      let at = each n c m in
      let back : code_of c ≡ n = ap₂ code at.0 at.1 ∙ codes_are_exact.back n in
      subst (FirstHeld t) (sym back) f

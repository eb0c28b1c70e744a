-- Lists of calls, one call after the other.
use Rattle.std.proofs.Common.{◌≡◌, ℕ, List, [], ◌∷◌, ◌++◌, map, sym, refl, ◌∙◌, subst}
use Rattle.std.proofs.lemmas.List.{map-append}
use Rattle.board.specs.Measures.{MeasureLaws}
use Rattle.store.specs.Stores.{StoreFacts}
use Rattle.store.specs.declared.store.Answer.{Answer}
use Rattle.comparison.specs.declared.call.Call.{Call}
use Rattle.comparison.specs.declared.call.Outcome.{Outcome}
use Rattle.comparison.specs.declared.comparison.Comparison.{Comparison}
use Rattle.comparison.specs.Calls.{Does, Run, said}
use Rattle.comparison.specs.Calls.Run.{stop}
use Rattle.comparison.specs.Comparisons.{Did, Ran, world, state}
use Rattle.comparison.proofs.Calling.{facts}
use Rattle.comparison.proofs.Keeping.{extended, law}

module _ {A B M : Type 0} (film : A → ℕ → ℕ → Answer) (drawing : B → ℕ → ℕ → Answer) (amount : M → ℕ → ℕ → ℕ) where
  -- some calls were made
  pub record Going (c : Comparison A B M) (calls : List Call) (os : List Outcome) (c' : Comparison A B M) : Type 0 where
    pub same_world : world film drawing amount c' ≡ world film drawing amount c
    pub run : Run (world film drawing amount c) (state c) calls (map said os) (state c')

  pub going_none : (c : Comparison A B M) → Going c [] [] c
  going_none c = record { same_world = refl; run = stop }

  pub going_more : (c d e : Comparison A B M) (calls : List Call) (os : List Outcome) (call : Call) (o : Outcome) → Going c calls os d → Did film drawing amount d call o e → Going c (calls ++ call ∷ []) (os ++ o ∷ []) e
  going_more c d e calls os call o a b = record {
    same_world = b.same_world ∙ a.same_world;
    run = subst (λ ss. Run (world film drawing amount c) (state c) (calls ++ call ∷ []) ss (state e)) (sym (map-append said os (o ∷ [])))
        (extended (world film drawing amount c) call (said o) a.run (subst (λ w. Does w (state d) call (said o) (state e)) a.same_world b.does));
  }

  pub ran : (ff : (a : A) → StoreFacts (film a)) (df : (b : B) → StoreFacts (drawing b)) (mf : (m : M) → MeasureLaws (amount m))
      → (c d : Comparison A B M) (calls : List Call) (os : List Outcome) → Going c calls os d → Ran film drawing amount c calls os d
  ran ff df mf c d calls os a = record {
    same_world = a.same_world;
    run = a.run;
    law = λ e. law (world film drawing amount c) (facts film ff drawing df amount mf c) calls (map said os) (state d) (subst (λ s. Run (world film drawing amount c) s calls (map said os) (state d)) e a.run);
  }

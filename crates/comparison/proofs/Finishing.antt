-- Steps to the end.
use Rattle.std.proofs.Common.{◌≡◌, ℕ, ◌+◌, true, false, Ok, Err, Result, List, [], ◌∷◌, ◌++◌, replicate, Some, sum_by, sym, refl, ap, ◌∙◌, subst, arith}
use Rattle.board.specs.Measures.{MeasureLaws}
use Rattle.std.specs.Result.{is_ok}
use Rattle.std.proofs.lemmas.Bool.{both_ways, false≢true}
use Rattle.std.proofs.lemmas.List.{replicate-append-replicate}
use Rattle.std.proofs.lemmas.List.Sorted.{sum_by-IsPermutation}
use Rattle.std.proofs.lemmas.List.Sums.{sum_by-cons}
use Rattle.search.specs.Offers.{weight}
use Rattle.search.specs.WaitingLists.{waiting, Taken}
use Rattle.search.specs.declared.waiting.WaitingList.{WaitingList}
use Rattle.store.specs.Stores.{StoreFacts}
use Rattle.store.specs.declared.store.Answer.{Answer}
use Rattle.comparison.specs.declared.call.Call.{Call}
use Rattle.comparison.specs.declared.call.Call.TheVariants.{Step}
use Rattle.comparison.specs.declared.call.Outcome.TheVariants.{Stepped}
use Rattle.comparison.specs.declared.comparison.Comparison.{Comparison}
use Rattle.comparison.specs.declared.fault.Fault.{Fault}
use Rattle.comparison.specs.declared.suspect.Suspect.{Suspect}
use Rattle.comparison.specs.Calls.{State, Said, Does, Steps, Run, counted}
use Rattle.comparison.specs.Calls.Said.{stepped, refused}
use Rattle.comparison.specs.Calls.Steps.{steps, step_early, step_late}
use Rattle.comparison.specs.Calls.Run.{stop, next}
use Rattle.comparison.specs.Comparisons.{Did, Finished, told, world, state}
use Rattle.comparison.specs.Suspects.{before}
use Rattle.comparison.specs.World.{World}
use Rattle.comparison.proofs.Calling.{facts}
use Rattle.comparison.proofs.Keeping.{extended, law}

run_onward : (w : World) {st st' st'' : State} {cs : List Call} {os : List Said} {cs' : List Call} {os' : List Said} → Run w st cs os st' → Run w st' cs' os' st'' → Run w st (cs ++ cs') (os ++ os') st''
run_onward w stop r = r
run_onward w (next d q) r = next d (run_onward w q r)

step_begun : (w : World) (st st' : State) → Steps w st stepped st' → st'.begun ≡ true
step_begun w st st' (steps b p) = p.begun

stopped : (w : World) (st st' : State) (n p : ℕ) → st.begun ≡ true → Steps w st (refused n p) st' → (st' ≡ st) × (st.waiting ≡ [])
stopped w st st' n p b (step_early x) = absurd (both_ways st.begun x b)
stopped w st st' n p b (step_late x e) = (refl, e)

-- what the taken entry weighs
pub taken_weight : (v : WaitingList Suspect) (s : Suspect) (w : WaitingList Suspect) → Taken before v (Some s) w → sum_by (λ s. weight s.square) (waiting v) ≡ weight s.square + sum_by (λ s. weight s.square) (waiting w)
taken_weight v s w t = sym (sum_by-IsPermutation (λ s. weight s.square) (waiting v) (s ∷ waiting w) t.0) ∙ sum_by-cons (λ s. weight s.square) s (waiting w)

module _ {A B M : Type 0} (film : A → ℕ → ℕ → Answer) (drawing : B → ℕ → ℕ → Answer) (amount : M → ℕ → ℕ → ℕ) where
  -- so many steps were made
  pub record Marching (c : Comparison A B M) (n : ℕ) (c' : Comparison A B M) : Type 0 where
    pub same_world : world film drawing amount c' ≡ world film drawing amount c
    pub begun : (state c').begun ≡ true
    pub steps : ℕ
    pub many : n ≡ counted 0 steps
    pub run : Run (world film drawing amount c) (state c) (replicate steps Step) (replicate steps stepped) (state c')

  pub marching_none : (c : Comparison A B M) → (state c).begun ≡ true → Marching c 0 c
  marching_none c b = record { same_world = refl; begun = b; steps = 0; many = refl; run = stop }

  pub marching_more : (c d e : Comparison A B M) (n m : ℕ) (r : Result (Unit {0}) Fault) → is_ok r ≡ true → Marching c n d → Did film drawing amount d Step (told (λ _. Stepped) r) e → m ≡ counted n 1 → Marching c m e
  marching_more c d e n m (Err f) k a b h = absurd (false≢true k)
  marching_more c d e n m (Ok x) k a b h = record {
    same_world = b.same_world ∙ a.same_world;
    begun = step_begun (world film drawing amount d) (state d) (state e) b.does;
    steps = a.steps + 1;
    many = let k = a.many in omega arith;
    run = subst (λ cs. Run (world film drawing amount c) (state c) cs (replicate (a.steps + 1) stepped) (state e)) (replicate-append-replicate a.steps 1 Step)
        (subst (λ os. Run (world film drawing amount c) (state c) (replicate a.steps Step ++ Step ∷ []) os (state e)) (replicate-append-replicate a.steps 1 stepped)
        (extended (world film drawing amount c) Step stepped a.run (subst (λ w. Does w (state d) Step stepped (state e)) a.same_world b.does)));
  }

  -- a step is refused where nothing waits
  pub finished : (ff : (a : A) → StoreFacts (film a)) (df : (b : B) → StoreFacts (drawing b)) (mf : (m : M) → MeasureLaws (amount m))
      → (c d e : Comparison A B M) (n : ℕ) (r : Result (Unit {0}) Fault) → is_ok r ≡ false → Marching c n d → Did film drawing amount d Step (told (λ _. Stepped) r) e → Finished film drawing amount c n e
  finished ff df mf c d e n (Ok x) k a b = absurd (false≢true (sym k))
  finished ff df mf c d e n (Err f) k a b =
      let s = stopped (world film drawing amount d) (state d) (state e) _ _ a.begun b.does in
      let run = subst (λ st. Run (world film drawing amount c) (state c) (replicate a.steps Step) (replicate a.steps stepped) st) (sym s.0) a.run in
      record {
        same_world = b.same_world ∙ a.same_world;
        steps = a.steps;
        many = a.many;
        run = run;
        nothing_waits = ap (λ st. st.waiting) s.0 ∙ s.1;
        keeps = λ r.
            let q = run_onward (world film drawing amount c) r.run run in
            let l = law (world film drawing amount c) (facts film ff drawing df amount mf c) _ _ (state e) q in
            (record { calls = _; outcomes = _; run = q }, l.lawful);
      }

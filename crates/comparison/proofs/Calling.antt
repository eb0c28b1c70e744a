-- Each call, joined from its parts.
use Rattle.std.proofs.Common.{◌≡◌, ℕ, ◌-◌, ◌<◌, ◌≤◌, Bool, true, false, ◌⊎◌, List, [], ◌∷◌, ◌++◌, length, length-append, max, Some, None, Option, MatchOption, sym, refl, ap, ◌∙◌, subst, ap₂, inl, inr, arith}
use Rattle.std.specs.Option.{is_some}
use Rattle.std.specs.Ordering.{is_lt}
use Rattle.std.specs.List.Sorted.{IsPermutation}
use Rattle.std.proofs.lemmas.List.Sorted.{length_permutation}
use Rattle.std.specs.List.{ContainsAt as Has}
use Rattle.std.proofs.ByRecursion.{all-has, All-weaker, all_shuffled}
use Rattle.std.proofs.lemmas.Bool.{cases_lt, false≢true}
use Rattle.board.specs.Findings.{code_of}
use Rattle.board.specs.Measures.{MeasureLaws}
use Rattle.board.specs.declared.cell.Cell.{Cell}
use Rattle.board.specs.declared.finding.Finding.{Finding}
use Rattle.search.specs.Firsts.{FirstHeld}
use Rattle.search.specs.WaitingLists.{waiting, room, Shown, Taken, InHeap, FirstIn}
use Rattle.search.specs.declared.waiting.WaitingList.{WaitingList}
use Rattle.store.specs.Stores.{Holds, StoreFacts}
use Rattle.store.specs.declared.store.Answer.{Answer}
use Rattle.comparison.specs.declared.call.Call.{Call}
use Rattle.comparison.specs.declared.call.Call.TheVariants.{Begin, Step, Probe, Look, Result}
use Rattle.comparison.specs.declared.call.Outcome.{Outcome}
use Rattle.comparison.specs.declared.call.Outcome.TheVariants.{Begun, Stepped, Probed, Looked, Answered, Refused}
use Rattle.comparison.specs.declared.comparison.Comparison.{Comparison}
use Rattle.comparison.specs.declared.fault.Fault.TheVariants.{NothingWaits, Waits}
use Rattle.comparison.specs.declared.record.Record.{Record}
use Rattle.comparison.specs.declared.suspect.Suspect.{Suspect}
use Rattle.comparison.specs.declared.trial.Trial.{Trial}
use Rattle.comparison.specs.Advances.{Handles, Started}
use Rattle.comparison.specs.Calls.{State, Does, Steps, Probes, Looks, Results, Tried, Handled, counted, high, greatest_key, said}
use Rattle.comparison.specs.Calls.Said.{probed, looked, answered, refused}
use Rattle.comparison.specs.Calls.Begins.{begins}
use Rattle.comparison.specs.Calls.Steps.{steps, step_late}
use Rattle.comparison.specs.Calls.Probes.{probes}
use Rattle.comparison.specs.Calls.Looks.{looks}
use Rattle.comparison.specs.Calls.Results.{results, result_waits}
use Rattle.comparison.specs.Comparisons.{Did, queued_by, taken_by, world, state}
use Rattle.comparison.specs.Suspects.{before}
use Rattle.comparison.specs.Trials.{over, Stays}
use Rattle.comparison.specs.World.{Facts, InFilm, KeyedAt}
use Rattle.comparison.proofs.Advancing.{over_places}
use Rattle.comparison.proofs.Keeping.{one_more, greatest-below, keys_below}
use Rattle.comparison.specs.SuspectFacts.{suspects_are_ordered}

-- the first in order has the greatest key
pub first_key : (xs : List Suspect) (x : Suspect) → Has xs x → FirstIn before x xs → greatest_key xs ≡ x.key
first_key xs x h f =
    let low = all-has (λ s. s.key ≤ greatest_key xs) xs x (keys_below xs (greatest_key xs) (omega arith)) h in
    let up = greatest-below xs x.key (All-weaker (λ y. is_lt (before y x) ≡ false) (λ y. y.key ≤ x.key) (λ y i. go y i (cases_lt x.key y.key)) xs f) in
    omega arith
  where
    go : (y : Suspect) → is_lt (before y x) ≡ false → (x.key < y.key) ⊎ (y.key ≤ x.key) → y.key ≤ x.key
    go y i (inl lt) = absurd (false≢true (sym i ∙ ap is_lt (suspects_are_ordered.by_key y x lt)))
    go y i (inr le) = le

-- the greater of low and the key of what is shown
pub shown_high : (v : WaitingList Suspect) (o : Option Suspect) (low r : ℕ) {P : Suspect → Type 0} → Shown before v o → InHeap before (waiting v)
    → MatchOption o (r ≡ low) P → ((s : Suspect) → P s → r ≡ max low s.key) → r ≡ max low (greatest_key (waiting v))
shown_high v None low r sh h m k = let e : greatest_key (waiting v) ≡ 0 = ap greatest_key sh in omega (arith, m)
shown_high v (Some s) low r sh h m k = k s m ∙ ap (max low) (sym (first_key (waiting v) s sh.0 (sh.1 h)))

-- states of the same parts
pub state_one : {A B M : Type 0} → (c d : Comparison A B M) → c.trial ≡ d.trial → c.progress ≡ d.progress → waiting c.suspects ≡ waiting d.suspects → state c ≡ state d
state_one {A} {B} {M} c d t p w =
    ap₂ (λ (x : Trial A B M) (q : Option Record). let st : State = record { begun = is_some q; figures = x.figures; queued = queued_by q; taken = taken_by q; waiting = waiting c.suspects } in st) t p
    ∙ ap (λ (xs : List Suspect). let st : State = record { begun = is_some d.progress; figures = d.trial.figures; queued = queued_by d.progress; taken = taken_by d.progress; waiting = xs } in st) w

module _ {A B M : Type 0} (film : A → ℕ → ℕ → Answer) (ff : (a : A) → StoreFacts (film a)) (drawing : B → ℕ → ℕ → Answer) (df : (b : B) → StoreFacts (drawing b)) (amount : M → ℕ → ℕ → ℕ) (mf : (m : M) → MeasureLaws (amount m)) where
  pub facts : (c : Comparison A B M) → Facts (world film drawing amount c)
  facts c = record { film = ff c.trial.ground.film; drawing = df c.trial.ground.drawing; measure = mf c.trial.ground.measure }

  pub did : (c c' : Comparison A B M) (call : Call) (o : Outcome) → world film drawing amount c' ≡ world film drawing amount c → Does (world film drawing amount c) (state c) call (said o) (state c') → Did film drawing amount c call o c'
  did c c' call o e d = record { same_world = e; does = d; keeps = λ r. one_more (world film drawing amount c) (facts c) (state c) (state c') call (said o) d r }

  -- a call that changed nothing
  pub did_nothing : (c : Comparison A B M) (call : Call) (o : Outcome) → Does (world film drawing amount c) (state c) call (said o) (state c) → Did film drawing amount c call o c
  did_nothing c call o d = did c c call o refl d

  pub did_begin : (c c' : Comparison A B M) (a e : ℕ) → 0 < room c.suspects → 0 < room c.trial.ground.neighbours → FirstHeld (film c.trial.ground.film) a → Holds (drawing c.trial.ground.drawing) e → Started film drawing amount c a c' → Did film drawing amount c Begin Begun c'
  did_begin c c' a e h h' f o s =
      did c c' Begin Begun s.same_world (begins e h h' o (record {
        first = subst (FirstHeld (film c.trial.ground.film)) (sym s.witness) f;
        partner = subst (λ x. KeyedAt (world film drawing amount c) 0 x c'.trial.figures.low c'.trial.figures.drawing) (sym s.witness) s.partner;
        begun = s.begun;
        queued = s.queued;
        taken = s.taken;
        board = s.board;
        waiting = s.waits;
        whole = s.whole;
        right = s.right;
      }))

  -- the rest is the comparison without what was taken
  module _ (c rest : Comparison A B M) (r : Record) (b : c.progress ≡ Some r) (places : room rest.suspects ≡ room c.suspects) (u : rest.trial ≡ c.trial) (p : rest.progress ≡ c.progress) where
    same : world film drawing amount rest ≡ world film drawing amount c
    same = ap₂ (λ n t. over film drawing amount n t.ground) places u

    -- d is what became of the rest, and e is d with the new record
    pub did_step : (s : Suspect) (d e : Comparison A B M) (q : Record) → Taken before c.suspects (Some s) rest.suspects → Handles film drawing amount rest s d
        → e.trial ≡ d.trial → e.suspects ≡ d.suspects → e.progress ≡ Some q
        → q.queued ≡ counted r.queued (length (waiting d.suspects) - length (waiting rest.suspects)) → q.taken ≡ counted r.taken 1
        → Did film drawing amount c Step Stepped e
    did_step s d e q t x te se pe more one =
        let first = all_shuffled (λ y. is_lt (before y s) ≡ false) (waiting c.suspects) (s ∷ waiting rest.suspects) t.0 (t.1 c.in_order).1 in
        did c e Step Stepped (ap₂ (λ v t. over film drawing amount (room v) t.ground) se te ∙ x.queues.same_world ∙ same)
        (steps (ap is_some b) (record {
          taken_one = s;
          queued_now = x.es;
          rest = waiting rest.suspects;
          split = t.0;
          was_first = first.1;
          handled = subst (λ t. Handled (world film drawing amount c) s (room c.suspects - length (waiting rest.suspects)) c.trial.figures x.es t.figures) (sym te)
              (subst (λ t. Handled (world film drawing amount c) s (room c.suspects - length (waiting rest.suspects)) t.figures x.es d.trial.figures) u
              (subst (λ v. Handled v s (v.suspects - length (waiting rest.suspects)) rest.trial.figures x.es d.trial.figures) same x.handled));
          waiting = subst (λ v. IsPermutation (waiting v) (x.es ++ waiting rest.suspects)) (sym se) x.queues.waits;
          begun = ap is_some pe;
          queued =
              let long = length_permutation (waiting d.suspects) (x.es ++ waiting rest.suspects) x.queues.waits in
              let n : length (waiting d.suspects) - length (waiting rest.suspects) ≡ length x.es = omega (arith, length-append x.es (waiting rest.suspects)) in
              ap queued_by pe ∙ more ∙ ap₂ counted (sym (ap queued_by b)) n;
          taken = ap taken_by pe ∙ one ∙ ap (λ n. counted n 1) (sym (ap taken_by b));
        }))

    pub did_no_step : Taken before c.suspects None rest.suspects → Did film drawing amount c Step (Refused NothingWaits) rest
    did_no_step t =
        did c rest Step (Refused NothingWaits) same
        (subst (λ st. Steps (world film drawing amount c) (state c) (refused 16 0) st) (state_one c rest (sym u) (sym p) (t.0 ∙ sym t.1)) (step_late (ap is_some b) t.0))

  pub did_probe : (c d : Comparison A B M) (cell : Cell) → (state c).begun ≡ true → InFilm (world film drawing amount c) (code_of cell)
      → Stays film drawing amount c.trial.ground d.trial.ground → d.suspects ≡ c.suspects → d.progress ≡ c.progress → Tried (world film drawing amount c) (λ x. x ≡ code_of cell) c.trial.figures d.trial.figures
      → Did film drawing amount c (Probe cell) Probed d
  did_probe c d cell b o s e p t =
      did c d (Probe cell) Probed (ap (λ v. over film drawing amount (room v) d.trial.ground) e ∙ over_places film drawing amount (room c.suspects) c.trial.ground d.trial.ground s)
      (subst (λ st. Probes (world film drawing amount c) (state c) (code_of cell) probed st) left (probes b o t))
    where
      before : State
      before = record { begun = true; figures = d.trial.figures; queued = queued_by c.progress; taken = taken_by c.progress; waiting = waiting c.suspects }

      left : before ≡ state d
      left =
          ap (λ (x : Bool). let st : State = record { begun = x; figures = d.trial.figures; queued = queued_by c.progress; taken = taken_by c.progress; waiting = waiting c.suspects } in st) (sym b)
          ∙ ap₂ (λ (q : Option Record) (v : WaitingList Suspect). let st : State = record { begun = is_some q; figures = d.trial.figures; queued = queued_by q; taken = taken_by q; waiting = waiting v } in st) (sym p) (sym e)

  pub did_look : (c : Comparison A B M) (r : Record) (h n : ℕ) (f : Finding) → c.progress ≡ Some r → h ≡ high (state c)
      → f.distance ≡ c.trial.figures.low → code_of f.film ≡ c.trial.figures.film → code_of f.drawing ≡ c.trial.figures.drawing → n ≡ length (waiting c.suspects)
      → Did film drawing amount c Look (Looked (record { low = f.distance; high = h; film = f.film; drawing = f.drawing; queued = r.queued; taken = r.taken; waiting = n })) c
  did_look c r h n f b e d p q l = did_nothing c Look _ (subst (λ o. Looks (world film drawing amount c) (state c) o (state c)) said_so (looks (ap is_some b)))
    where
      queued : queued_by c.progress ≡ r.queued
      queued = ap queued_by b

      taken : taken_by c.progress ≡ r.taken
      taken = ap taken_by b

      said_so : looked c.trial.figures.low (high (state c)) c.trial.figures.film c.trial.figures.drawing (queued_by c.progress) (taken_by c.progress) (length (waiting c.suspects))
          ≡ looked f.distance h (code_of f.film) (code_of f.drawing) r.queued r.taken n
      said_so = let k = queued in let t = taken in cc

  pub did_result : (c : Comparison A B M) (n : ℕ) (f : Finding) → (state c).begun ≡ true → n ≡ length (waiting c.suspects) → n ≤ 0
      → f.distance ≡ c.trial.figures.low → code_of f.film ≡ c.trial.figures.film → code_of f.drawing ≡ c.trial.figures.drawing
      → Did film drawing amount c Result (Answered f) c
  did_result c n f b l z d p q =
      did_nothing c Result (Answered f) (subst (λ o. Results (world film drawing amount c) (state c) o (state c)) said_so (results b (none (waiting c.suspects) (omega arith))))
    where
      none : (xs : List Suspect) → length xs ≤ 0 → xs ≡ []
      none [] h = refl
      none (x ∷ xs) h = absurd (omega arith)

      said_so : answered c.trial.figures.low c.trial.figures.film c.trial.figures.drawing ≡ answered f.distance (code_of f.film) (code_of f.drawing)
      said_so = cc

  pub did_wait : (c : Comparison A B M) (n : ℕ) → (state c).begun ≡ true → n ≡ length (waiting c.suspects) → 0 < n → Did film drawing amount c Result (Refused (Waits n)) c
  did_wait c n b l h =
      did_nothing c Result (Refused (Waits n))
      (subst (λ m. Results (world film drawing amount c) (state c) (refused 17 m) (state c)) (sym l) (result_waits b (omega arith)))

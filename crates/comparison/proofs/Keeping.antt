-- What each call keeps, and the law.
use Rattle.std.proofs.Common.{◌≡◌, ℕ, ◌+◌, ◌*◌, ◌/◌, ◌^◌, ◌<◌, ◌≤◌, true, false, ◌⊎◌, List, [], ◌∷◌, ◌++◌, length, sum_by, sym, refl, ap, ◌∙◌, subst, inl, inr, arith, length-append}
use Rattle.std.specs.List.{AllByRecursion}
use Rattle.std.proofs.lemmas.Bool.{cases_lt, cases_eq, both_ways}
use Rattle.std.proofs.lemmas.List.Sums.{sum_by-cons, sum_by-append}
use Rattle.std.proofs.lemmas.List.Sorted.{IsPermutation-sym, length_permutation, sum_by-IsPermutation}
use Rattle.std.proofs.ByRecursion.{all_shuffled, All-weaker, All-append}
use Rattle.board.specs.Findings.{code_of}
use Rattle.store.specs.declared.store.Answer.TheVariants.{Empty}
use Rattle.comparison.specs.declared.call.Call.{Call}
use Rattle.comparison.specs.declared.call.Call.TheVariants.{Begin, Step, Probe, Look, Result}
use Rattle.comparison.specs.declared.record.Figures.{Figures}
use Rattle.comparison.specs.declared.suspect.Suspect.{Suspect}
use Rattle.comparison.specs.World.{World, Facts, InFilm, InDrawing, NearestTo, Strayed, dist, squares_in}
use Rattle.comparison.specs.Calls.{State, Said, Does, Run, Begins, Steps, Probes, Looks, Results, Advanced, Opening, Tried, fresh, high, greatest_key}
use Rattle.comparison.specs.Calls.Said.{begun, answered, refused}
use Rattle.comparison.specs.Calls.Begins.{begins, no_suspects, no_neighbours, no_film, no_drawing}
use Rattle.comparison.specs.Calls.Steps.{steps, step_early, step_late}
use Rattle.comparison.specs.Calls.Probes.{probes, not_held, probe_early}
use Rattle.comparison.specs.Calls.Looks.{looks, look_early}
use Rattle.comparison.specs.Calls.Results.{results, result_early, result_waits}
use Rattle.comparison.specs.Calls.Run.{stop, next}
use Rattle.comparison.specs.Law.{GoesOn, Sound, TrueOf, Narrows, Lawful, Law, KeptBy, Reached, RunsKeepTheLaw}
use Rattle.comparison.proofs.Keying.{key_bounds, cell_key, not_empty, on_board, film_code}
use Rattle.comparison.proofs.Existing.{strays_exists, strays_from}
use Rattle.comparison.proofs.Handling.{Settled, Outside, Entry, Shown, size, size_pos, size_most, better, covers, entries, keys, smaller, in_room, shown, low_rises, low_bound, tried_better, tried_shown, tried_low, tried_bound}

-- all of two lists, apart
pub all_left : {X : Type 0} (P : X → Type 0) (xs ys : List X) → AllByRecursion P (xs ++ ys) → AllByRecursion P xs
all_left P [] ys h = tt
all_left P (x ∷ xs) ys h = (h.0, all_left P xs ys h.1)

pub all_right : {X : Type 0} (P : X → Type 0) (xs ys : List X) → AllByRecursion P (xs ++ ys) → AllByRecursion P ys
all_right P [] ys h = h
all_right P (x ∷ xs) ys h = all_right P xs ys h.1

pub all_both : {X : Type 0} (P Q : X → Type 0) (xs : List X) → AllByRecursion P xs → AllByRecursion Q xs → AllByRecursion (λ x. P x × Q x) xs
all_both P Q [] p q = tt
all_both P Q (x ∷ xs) p q = ((p.0, q.0), all_both P Q xs p.1 q.1)

-- the greatest key bounds each key, and is bounded by what bounds each
pub keys_below : (ss : List Suspect) (m : ℕ) → greatest_key ss ≤ m → AllByRecursion (λ s. s.key ≤ m) ss
keys_below [] m h = tt
keys_below (s ∷ ss) m h = (omega arith, keys_below ss m (omega arith))

pub greatest-below : (ss : List Suspect) (m : ℕ) → AllByRecursion (λ s. s.key ≤ m) ss → greatest_key ss ≤ m
greatest-below [] m h = omega arith
greatest-below (s ∷ ss) m h = let q = greatest-below ss m h.1 in omega (arith, h.0)

module _ (w : World) where
  -- one call more
  pub extended : {st st' st'' : State} (c : Call) (o : Said) {cs : List Call} {os : List Said} → Run w st cs os st' → Does w st' c o st'' → Run w st (cs ++ c ∷ []) (os ++ o ∷ []) st''
  extended c o stop d = next d stop
  extended c o (next e r) d = next e (extended c o r d)

module _ (w : World) (fs : Facts w) where
  -- as many squares as entries, at least
  sizes_pos : (ss : List Suspect) → AllByRecursion (Entry w fs) ss → length ss ≤ sum_by (size w) ss
  sizes_pos [] h = omega arith
  sizes_pos (s ∷ ss) h =
      let a = sizes_pos ss h.1 in
      let b = size_pos w s.square.level s.square.number h.0.1 in
      omega (arith, sum_by-cons (size w) s ss)

  -- what every state that has begun keeps
  pub record Kept (st : State) : Type 0 where
    pub shows : Shown w fs st.figures
    -- no cell outside of the waiting squares improves the figures
    pub cover : (c e : ℕ) → InFilm w c → NearestTo w c e → AllByRecursion (Outside c) st.waiting → Settled st.figures (dist w c e) c
    pub right : AllByRecursion (Entry w fs) st.waiting
    pub balanced : st.queued ≡ st.taken + length st.waiting
    -- what was taken, and all that can still be queued, fits
    pub fits : st.taken + sum_by (size w) st.waiting ≤ squares_in w 16 0
    pub waits : length st.waiting ≤ w.suspects

  -- no cell of the film is farther than `high`
  pub under_high : (st : State) → Kept st → (c e : ℕ) → InFilm w c → NearestTo w c e → dist w c e ≤ high st
  under_high st k c e o near = go (cases_lt (high st) (dist w c e))
    where
      out : high st < dist w c e → (s : Suspect) → Entry w fs s × (s.key ≤ greatest_key st.waiting) → Outside c s
      out lt s h q = let b = key_bounds w fs s.square.level s.square.number s.key s.partner c e (film_code w fs c o) h.0.0 q near in omega (arith, h.1)

      go : (high st < dist w c e) ⊎ (dist w c e ≤ high st) → dist w c e ≤ high st
      go (inr h) = h
      go (inl lt) =
          let a = All-weaker (λ s. Entry w fs s × (s.key ≤ greatest_key st.waiting)) (Outside c) (out lt) st.waiting
          (all_both (Entry w fs) (λ s. s.key ≤ greatest_key st.waiting) st.waiting k.right (keys_below st.waiting (greatest_key st.waiting) (omega arith))) in
          let s = k.cover c e o near a in
          omega (arith, s.0)

  -- where nothing waits, the figures are the distance
  pub finished : (st : State) → Kept st → st.waiting ≡ [] → Strayed w st.figures.low st.figures.film st.figures.drawing
  finished st k e =
      strays_from w fs st.figures.film st.figures.drawing k.shows.0 k.shows.1
      (λ c x o near. let s = k.cover c x o near (subst (AllByRecursion (Outside c)) (sym e) tt) in let d = k.shows.2 in (omega (arith, s.0), λ i. s.1 (i ∙ sym d)))
      st.figures.low k.shows.2

  refuses : (st : State) (o : Said) (st' : State) → st.begun ≡ true → Results w st o st' → 0 < length st.waiting → o ≡ refused 17 (length st.waiting)
  refuses st o st' b (results x e) h = absurd (omega (arith, ap length e))
  refuses st o st' b (result_early x) h = absurd (both_ways st.begun x b)
  refuses st o st' b (result_waits x y) h = refl

  answers : (st : State) (o : Said) (st' : State) → st.begun ≡ true → Results w st o st' → st.waiting ≡ [] → o ≡ answered st.figures.low st.figures.film st.figures.drawing
  answers st o st' b (results x e) h = refl
  answers st o st' b (result_early x) h = absurd (both_ways st.begun x b)
  answers st o st' b (result_waits x y) h = absurd (omega (arith, ap length h))

  pub sound : (st : State) → st.begun ≡ true → Kept st → Sound w st
  sound st b k = record {
    distance = strays_exists w fs st.figures.film st.figures.drawing k.shows.0 k.shows.1.held;
    shown = k.shows;
    low_bounds = λ d a b s.
        let x = s.farthest st.figures.film k.shows.0 in
        let y = k.shows.1.nearest x.0 x.1 in omega (arith, k.shows.2, x.2);
    high_bounds = λ d a b s. let h = under_high st k a b s.held s.partner in omega (arith, s.amount);
    balanced = k.balanced;
    bounded = let h = sizes_pos st.waiting k.right in omega (arith, k.balanced, k.fits);
    waits = k.waits;
    finished = finished st k;
    refuses = λ o st' d h. refuses st o st' b d h;
    answers = λ o st' d h. answers st o st' b d h;
  }

  pub kept_begin : (st : State) (e : ℕ) → 0 < w.suspects → InDrawing w e → Opening w st → Kept st
  kept_begin st e h o b =
      let lev : b.board.square.level ≡ 16 = ap (λ s. s.level) b.whole in
      let num : b.board.square.number ≡ 0 = ap (λ s. s.number) b.whole in
      let held : w.film b.board.square.level b.board.square.number ≡ Empty → ⊥ =
      λ z. not_empty w fs 16 0 st.figures.film (omega arith) b.first.held (on_board w fs st.figures.film b.first.held) (sym (ap (λ s. w.film s.level s.number) b.whole) ∙ z) in
      let whole : size w b.board ≡ squares_in w 16 0 = ap (λ s. squares_in w s.level s.number) b.whole in
      let k = cell_key w fs st.figures.film st.figures.low st.figures.drawing e (film_code w fs st.figures.film b.first.held) b.partner o in
      let one : length st.waiting ≡ 1 = ap length b.waiting in
      let sizes : sum_by (size w) st.waiting ≡ squares_in w 16 0 + 0 = ap (sum_by (size w)) b.waiting ∙ sum_by-cons (size w) b.board [] ∙ ap (λ x. x + 0) whole in
      record {
        shows = (b.first.held, k.0, k.1);
        cover = λ c e o near out.
            let h : AllByRecursion (Outside c) (b.board ∷ []) = subst (AllByRecursion (Outside c)) b.waiting out in
            absurd (h.0 (subst (λ s. c / 4 ^ s.level ≡ s.number) (sym b.whole) (on_board w fs c o)));
        right = subst (AllByRecursion (Entry w fs)) (sym b.waiting) ((b.right, held, omega arith), tt);
        balanced = omega (arith, b.queued, b.taken);
        fits = omega (arith, b.taken);
        waits = omega arith;
      }

  module _ (st st' : State) (k : Kept st) (p : Advanced w st st') where
    both : AllByRecursion (Entry w fs) (p.taken_one ∷ p.rest)
    both = all_shuffled (Entry w fs) st.waiting (p.taken_one ∷ p.rest) p.split k.right

    step_cover : (c e : ℕ) → InFilm w c → NearestTo w c e → AllByRecursion (Outside c) st'.waiting → Settled st'.figures (dist w c e) c
    step_cover c e o near out = go (cases_eq (c / 4 ^ p.taken_one.square.level) p.taken_one.square.number)
      where
        now_out : AllByRecursion (Outside c) (p.queued_now ++ p.rest)
        now_out = all_shuffled (Outside c) st'.waiting (p.queued_now ++ p.rest) p.waiting out

        go : (c / 4 ^ p.taken_one.square.level ≡ p.taken_one.square.number) ⊎ (c / 4 ^ p.taken_one.square.level ≡ p.taken_one.square.number → ⊥) → Settled st'.figures (dist w c e) c
        go (inl q) = covers w fs p.taken_one _ st.figures p.handled both.0 c e o near (all_left (Outside c) p.queued_now p.rest now_out) q
        go (inr n) =
            better w fs p.taken_one _ st.figures p.handled (dist w c e) c
            (k.cover c e o near
            (all_shuffled (Outside c) (p.taken_one ∷ p.rest) st.waiting (IsPermutation-sym st.waiting (p.taken_one ∷ p.rest) p.split)
            (n, all_right (Outside c) p.queued_now p.rest now_out)))

    -- all of what waits after the step, from all of what it queued and all of the rest
    after : (P : Suspect → Type 0) → AllByRecursion P p.queued_now → AllByRecursion P p.rest → AllByRecursion P st'.waiting
    after P a b =
        all_shuffled P (p.queued_now ++ p.rest) st'.waiting (IsPermutation-sym st'.waiting (p.queued_now ++ p.rest) p.waiting)
        (All-append P p.queued_now p.rest a b)

    record Counts : Type 0 where
      before : length st.waiting ≡ 1 + length p.rest
      left : length st'.waiting ≡ length p.queued_now + length p.rest
      sizes_before : sum_by (size w) st.waiting ≡ size w p.taken_one + sum_by (size w) p.rest
      sizes_left : sum_by (size w) st'.waiting ≡ sum_by (size w) p.queued_now + sum_by (size w) p.rest
      fewer : 1 + sum_by (size w) p.queued_now ≤ size w p.taken_one
      queued_pos : length p.queued_now ≤ sum_by (size w) p.queued_now
      rest_pos : length p.rest ≤ sum_by (size w) p.rest
      few : 3 * squares_in w 16 0 + 1 ≤ 4 ^ 17

    counts : Counts
    counts = record {
      before = let h = length_permutation st.waiting (p.taken_one ∷ p.rest) p.split in omega arith;
      left = let h = length_permutation st'.waiting (p.queued_now ++ p.rest) p.waiting in sym h ∙ length-append p.queued_now p.rest;
      sizes_before = sym (sum_by-IsPermutation (size w) st.waiting (p.taken_one ∷ p.rest) p.split) ∙ sum_by-cons (size w) p.taken_one p.rest;
      sizes_left = sym (sum_by-IsPermutation (size w) st'.waiting (p.queued_now ++ p.rest) p.waiting) ∙ sum_by-append (size w) p.queued_now p.rest;
      fewer = smaller w fs p.taken_one _ st.figures p.handled both.0;
      queued_pos = sizes_pos p.queued_now (entries w fs p.taken_one _ st.figures p.handled both.0);
      rest_pos = sizes_pos p.rest both.1;
      few = size_most w 16 0;
    }

    pub step_kept : Kept st'
    step_kept = let n = counts in record {
      shows = shown w fs p.taken_one _ st.figures p.handled both.0 k.shows;
      cover = step_cover;
      right = after (Entry w fs) (entries w fs p.taken_one _ st.figures p.handled both.0) both.1;
      balanced = omega (arith, n, k.balanced, k.fits, p.queued, p.taken);
      fits = omega (arith, n, k.balanced, k.fits, p.queued, p.taken);
      waits = omega (arith, n, k.waits, in_room w fs p.taken_one _ st.figures p.handled both.0);
    }

    pub step_narrows : Narrows st st'
    step_narrows =
        let now = all_shuffled (λ s. s.key ≤ high st) st.waiting (p.taken_one ∷ p.rest) p.split (keys_below st.waiting (high st) (omega arith)) in
        let new = All-weaker (λ s. s.key ≤ p.taken_one.key) (λ s. s.key ≤ high st) (λ s h. omega (arith, now.0)) p.queued_now (keys w fs p.taken_one _ st.figures p.handled both.0) in
        let g = greatest-below st'.waiting (high st) (after (λ s. s.key ≤ high st) new now.1) in
        let b = low_bound w fs p.taken_one _ st.figures p.handled both.0 k.shows (high st) (omega arith) now.0 in
        (low_rises w fs p.taken_one _ st.figures p.handled, omega arith)

  module _ (st : State) (k : Kept st) (c : ℕ) (g : Figures) (t : Tried w (λ x. x ≡ c) st.figures g) where
    abbrev pub after_probe : State
    after_probe = record { begun = true; figures = g; queued = st.queued; taken = st.taken; waiting = st.waiting }

    pub probe_kept : Kept after_probe
    probe_kept = record {
      shows = tried_shown w fs (λ x. x ≡ c) st.figures g t k.shows;
      cover = λ x e o near out. tried_better w fs (λ x. x ≡ c) st.figures g t (dist w x e) x (k.cover x e o near out);
      right = k.right;
      balanced = k.balanced;
      fits = k.fits;
      waits = k.waits;
    }

    pub probe_narrows : Narrows st after_probe
    probe_narrows =
        let b = tried_bound w fs (λ x. x ≡ c) st.figures g t (high st) k.shows (omega arith) (λ x e q o near. under_high st k x e o near) in
        (tried_low w fs (λ x. x ≡ c) st.figures g t, omega arith)

  -- what one call does to a state: what is kept, whether what it says is so, and that it narrows the figures
  pub record Effect (st st' : State) (o : Said) : Type 0 where
    pub keeps : st'.begun ≡ true → Kept st'
    pub says : TrueOf w o
    pub narrows : st.begun ≡ true → (o ≡ begun → ⊥) → (st'.begun ≡ true) × Narrows st st'

  -- a call that leaves the state as it was
  left : (st : State) (o : Said) → (st.begun ≡ true → Kept st) → TrueOf w o → Effect st st o
  left st o k t = record { keeps = k; says = t; narrows = λ b n. (b, (omega arith, omega arith)) }

  begin_effect : (st st' : State) (o : Said) → Begins w st o st' → (st.begun ≡ true → Kept st) → Effect st st' o
  begin_effect st st' o (begins e h h' d b) k = record { keeps = λ t. kept_begin st' e h d b; says = tt; narrows = λ t n. absurd (n refl) }
  begin_effect st st' o (no_suspects h) k = left st o k (λ e. omega arith)
  begin_effect st st' o (no_neighbours h n) k = left st o k (λ e. omega arith)
  begin_effect st st' o (no_film h h' n) k = left st o k (λ e. omega arith)
  begin_effect st st' o (no_drawing c h h' x n) k = left st o k (λ e. omega arith)

  step_effect : (st st' : State) (o : Said) → Steps w st o st' → (st.begun ≡ true → Kept st) → Effect st st' o
  step_effect st st' o (steps b p) k =
      record { keeps = λ t. step_kept st st' (k b) p; says = tt; narrows = λ t n. (p.begun, step_narrows st st' (k b) p) }
  step_effect st st' o (step_early h) k = left st o k (λ e. omega arith)
  step_effect st st' o (step_late h e) k = left st o k (λ e. omega arith)

  probe_effect : (st st' : State) (c : ℕ) (o : Said) → Probes w st c o st' → (st.begun ≡ true → Kept st) → Effect st st' o
  probe_effect st st' c o (probes {g = g} b h t) k =
      record { keeps = λ x. probe_kept st (k b) c g t; says = tt; narrows = λ x n. (refl, probe_narrows st (k b) c g t) }
  probe_effect st st' c o (not_held h) k = left st o k (λ e. omega arith)
  probe_effect st st' c o (probe_early h b) k = left st o k (λ e. omega arith)

  look_effect : (st st' : State) (o : Said) → Looks w st o st' → (st.begun ≡ true → Kept st) → Effect st st' o
  look_effect st st' o (looks b) k =
      let s = sound st b (k b) in
      left st o k ((λ d x y t. (s.low_bounds d x y t, s.high_bounds d x y t)), s.shown.0, s.shown.1, s.shown.2, s.balanced, s.bounded, s.waits)
  look_effect st st' o (look_early b) k = left st o k (λ e. omega arith)

  result_effect : (st st' : State) (o : Said) → Results w st o st' → (st.begun ≡ true → Kept st) → Effect st st' o
  result_effect st st' o (results b e) k = left st o k ((sound st b (k b)).finished e)
  result_effect st st' o (result_early b) k = left st o k (λ e. omega arith)
  result_effect st st' o (result_waits b e) k = left st o k (λ e. omega arith)

  pub effect : (st st' : State) (c : Call) (o : Said) → Does w st c o st' → (st.begun ≡ true → Kept st) → Effect st st' o
  effect st st' Begin o d k = begin_effect st st' o d k
  effect st st' Step o d k = step_effect st st' o d k
  effect st st' (Probe c) o d k = probe_effect st st' (code_of c) o d k
  effect st st' Look o d k = look_effect st st' o d k
  effect st st' Result o d k = result_effect st st' o d k

  pub run_keeps : {st st' : State} {cs : List Call} {os : List Said} → Run w st cs os st' → (st.begun ≡ true → Kept st) → st'.begun ≡ true → Kept st'
  run_keeps stop k t = k t
  run_keeps (next d r) k t = run_keeps r (effect _ _ _ _ d k).keeps t

  pub run_says : {st st' : State} {cs : List Call} {os : List Said} → Run w st cs os st' → (st.begun ≡ true → Kept st) → AllByRecursion (TrueOf w) os
  run_says stop k = tt
  run_says (next d r) k = ((effect _ _ _ _ d k).says, run_says r (effect _ _ _ _ d k).keeps)

  pub run_narrows : {st st' : State} {cs : List Call} {os : List Said} → Run w st cs os st' → GoesOn os → st.begun ≡ true → Kept st → Narrows st st'
  run_narrows stop n b k = (omega arith, omega arith)
  run_narrows (next d r) n b k =
      let e = effect _ _ _ _ d (λ x. k) in
      let one = e.narrows b n.0 in
      let all = run_narrows r n.1 one.0 (e.keeps one.0) in
      (omega (arith, one.1, all), omega (arith, one.1, all))

  lawful_from : (st : State) → (st.begun ≡ true → Kept st) → Lawful w st
  lawful_from st k = record {
    sound = λ b. sound st b (k b);
    narrows = λ b cs os st' more n. run_narrows more n b (k b);
  }

  never : fresh.begun ≡ true → Kept fresh
  never t = absurd (both_ways false refl t)

  pub law : (cs : List Call) (os : List Said) (st : State) → Run w fresh cs os st → Law w cs os st
  law cs os st run = record {
    says = run_says run never;
    lawful = lawful_from st (run_keeps run never);
  }

  pub one_more : (st st' : State) (c : Call) (o : Said) → Does w st c o st' → Reached w st → KeptBy w o st'
  one_more st st' c o d r =
      let e = effect st st' c o d (run_keeps r.run never) in
      record {
        reached = record { calls = r.calls ++ c ∷ []; outcomes = r.outcomes ++ o ∷ []; run = extended w c o r.run d };
        says = e.says;
        lawful = lawful_from st' e.keeps;
      }

pub runs_keep_the_law : RunsKeepTheLaw
runs_keep_the_law w fs cs os st run = law w fs cs os st run

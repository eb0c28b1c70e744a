-- The relation leaves no choice.
use Rattle.std.proofs.Common.{◌≡◌, ℕ, ◌+◌, ◌-◌, ◌*◌, ◌≤◌, max, true, false, ◌⊎◌, List, [], ◌∷◌, ◌++◌, length, sum_by, Ordering, Less, Equal, Greater, sym, refl, ap, ◌∙◌, subst, ap₂, inl, inr, arith}
use Rattle.std.specs.Ordering.{is_lt, ordering_reverse}
use Rattle.std.specs.List.Sorted.{IsPermutation}
use Rattle.std.specs.List.{AllByRecursion}
use Rattle.std.proofs.ByRecursion.{all_shuffled}
use Rattle.std.proofs.lemmas.List.Sorted.{IsPermutation-refl, IsPermutation-sym, IsPermutation-trans, IsPermutation-append_right, IsPermutation-cons, IsPermutation-swap, length_permutation, sum_by-IsPermutation}
use Rattle.std.proofs.lemmas.List.Sums.{sum_by-cons}
use Rattle.std.proofs.lemmas.Bool.{false≢true, both_ways}
use Rattle.comparison.specs.declared.suspect.Suspect.{Suspect}
use Rattle.board.specs.Findings.{code_of}
use Rattle.board.specs.Squares.{Inside}
use Rattle.board.specs.declared.square.Square.{Square}
use Rattle.comparison.specs.declared.call.Call.{Call}
use Rattle.comparison.specs.declared.call.Call.TheVariants.{Begin, Step, Probe, Look, Result}
use Rattle.comparison.specs.declared.record.Figures.{Figures}
use Rattle.comparison.specs.Calls.{State, Said, Does, Run, Begins, Steps, Probes, Looks, Results, Advanced, Opening, Tried, Source, Picked, Handled, Right, Improves, part, high, greatest_key, counted}
use Rattle.comparison.specs.Calls.Said.{answered, refused}
use Rattle.comparison.specs.Calls.Picked.{none, pick, pass_empty, pass}
use Rattle.comparison.specs.Calls.Handled.{dropped, settled, opened, sunk}
use Rattle.comparison.specs.Calls.Begins.{begins, no_suspects, no_neighbours, no_film, no_drawing}
use Rattle.comparison.specs.Calls.Steps.{steps, step_early, step_late}
use Rattle.comparison.specs.Calls.Probes.{probes, not_held, probe_early}
use Rattle.comparison.specs.Calls.Looks.{looks, look_early}
use Rattle.comparison.specs.Calls.Results.{results, result_early, result_waits}
use Rattle.comparison.specs.Calls.Run.{stop, next}
use Rattle.comparison.specs.Law.{Same, RunsAreOne}
use Rattle.board.specs.SquareOrder.{first_code}
use Rattle.comparison.specs.Suspects.{before, suspects}
use Rattle.comparison.specs.World.{World, Facts, KeyedAt}
use Rattle.comparison.proofs.Handling.{settled_from}
use Rattle.comparison.proofs.Keeping.{greatest-below, keys_below}
use Rattle.comparison.proofs.Keying.{laws}
use Rattle.comparison.specs.SuspectFacts.{same}

-- ---- bags of suspects

hit : Ordering → ℕ
hit Less = 0
hit Equal = 1
hit Greater = 0

unless_tied : (o : Ordering) → (o ≡ Equal) ⊎ (hit o ≡ 0)
unfolding hit
unless_tied Less = inr refl
unless_tied Equal = inl refl
unless_tied Greater = inr refl

hits : (o : Ordering) → o ≡ Equal → hit o ≡ 1
unfolding hit
hits o e = ap hit e

itself : (x : Suspect) → before x x ≡ Equal
itself x = go (before x x) refl (suspects.antisymm x x)
  where
    go : (o : Ordering) → before x x ≡ o → before x x ≡ ordering_reverse (before x x) → before x x ≡ Equal
    go Less e f = let z : ◌≡◌ {A = ℕ} 0 1 = cc in absurd (omega arith)
    go Equal e f = e
    go Greater e f = let z : ◌≡◌ {A = ℕ} 0 1 = cc in absurd (omega arith)

-- how often x is on the list
count : Suspect → List Suspect → ℕ
count x ys = sum_by (λ y. hit (before x y)) ys

count_cons : (x y : Suspect) (ys : List Suspect) → count x (y ∷ ys) ≡ hit (before x y) + count x ys
unfolding count
count_cons x y ys = sum_by-cons (λ y. hit (before x y)) y ys

count_none : (x : Suspect) → count x [] ≡ 0
unfolding count
count_none x = refl

count_shuffled : (x : Suspect) (xs ys : List Suspect) → IsPermutation xs ys → count x ys ≡ count x xs
unfolding count
count_shuffled x xs ys s = sum_by-IsPermutation (λ y. hit (before x y)) xs ys s

to_front : {X : Type 0} (xs bs : List X) (x : X) → IsPermutation (xs ++ x ∷ bs) (x ∷ xs ++ bs)
to_front [] bs x = IsPermutation-refl (x ∷ bs)
to_front (a ∷ xs) bs x = IsPermutation-trans (a ∷ xs ++ x ∷ bs) (a ∷ x ∷ xs ++ bs) (x ∷ a ∷ xs ++ bs) (IsPermutation-cons a _ _ (to_front xs bs x)) (IsPermutation-swap _ _ 0 1 (omega arith) (omega arith) refl)

find : (x : Suspect) (ys : List Suspect) → 1 ≤ count x ys → (us : List Suspect) × (vs : List Suspect) × (ys ≡ us ++ x ∷ vs)
find x [] h = absurd (omega (arith, count_none x))
find x (y ∷ ys) h = go (unless_tied (before x y)) (λ k. find x ys k)
  where
    go : (before x y ≡ Equal) ⊎ (hit (before x y) ≡ 0) → (1 ≤ count x ys → (us : List Suspect) × (vs : List Suspect) × (ys ≡ us ++ x ∷ vs)) → (us : List Suspect) × (vs : List Suspect) × (y ∷ ys ≡ us ++ x ∷ vs)
    go (inl e) more = ([], ys, ap (λ z. z ∷ ys) (sym (same x y e)))
    go (inr n) more = let r = more (omega (arith, count_cons x y ys)) in (y ∷ r.0, r.1, ap (λ l. y ∷ l) r.2)

bag : (xs ys : List Suspect) → ((x : Suspect) → count x xs ≡ count x ys) → IsPermutation xs ys
bag [] [] h = IsPermutation-refl []
bag [] (y ∷ ys) h = absurd (omega (arith, h y, count_none y, count_cons y y ys, hits (before y y) (itself y)))
bag (x ∷ xs) ys h =
    let f = find x ys (omega (arith, h x, count_cons x x xs, hits (before x x) (itself x))) in
    let us = f.0 in
    let vs = f.1 in
    let front : IsPermutation ys (x ∷ us ++ vs) = subst (λ l. IsPermutation l (x ∷ us ++ vs)) (sym f.2) (to_front us vs x) in
    IsPermutation-trans (x ∷ xs) (x ∷ us ++ vs) ys
    (IsPermutation-cons x xs (us ++ vs) (bag xs (us ++ vs) (λ z. omega (arith, h z, count_shuffled z ys (x ∷ us ++ vs) front, count_cons z x xs, count_cons z x (us ++ vs)))))
    (IsPermutation-sym ys (x ∷ us ++ vs) front)

-- what is left when the same is taken
pub shuffled_rest : (x : Suspect) (xs ys : List Suspect) → IsPermutation (x ∷ xs) (x ∷ ys) → IsPermutation xs ys
shuffled_rest x xs ys s = bag xs ys (λ z. omega (arith, count_shuffled z (x ∷ xs) (x ∷ ys) s, count_cons z x xs, count_cons z x ys))

-- ---- the first

-- neither comes before the other
neither : (x y : Suspect) → is_lt (before x y) ≡ false → is_lt (before y x) ≡ false → x ≡ y
neither x y p q = go (before y x) refl
  where
    go : (o : Ordering) → before y x ≡ o → x ≡ y
    go Less e = absurd (false≢true (sym q ∙ ap is_lt e))
    go Equal e = sym (same y x e)
    go Greater e = absurd (false≢true (sym p ∙ ap is_lt (suspects.antisymm x y ∙ ap ordering_reverse e)))

not_itself : (x : Suspect) → is_lt (before x x) ≡ false
not_itself x = ap is_lt (itself x)

-- two that are first are one
pub first_one : (x y : Suspect) (xs ys : List Suspect) → IsPermutation (x ∷ xs) (y ∷ ys) → AllByRecursion (λ z. is_lt (before z x) ≡ false) xs → AllByRecursion (λ z. is_lt (before z y) ≡ false) ys → x ≡ y
first_one x y xs ys s f g =
    let p = all_shuffled (λ z. is_lt (before z x) ≡ false) (x ∷ xs) (y ∷ ys) s (not_itself x, f) in
    let q = all_shuffled (λ z. is_lt (before z y) ≡ false) (y ∷ ys) (x ∷ xs) (IsPermutation-sym (x ∷ xs) (y ∷ ys) s) (not_itself y, g) in
    neither x y q.0 p.0

-- ---- one call

greatest_shuffled : (xs ys : List Suspect) → IsPermutation xs ys → greatest_key xs ≡ greatest_key ys
greatest_shuffled xs ys s =
    let a = greatest-below ys (greatest_key xs) (all_shuffled (λ s. s.key ≤ greatest_key xs) xs ys s (keys_below xs (greatest_key xs) (omega arith))) in
    let b = greatest-below xs (greatest_key ys) (all_shuffled (λ s. s.key ≤ greatest_key ys) ys xs (IsPermutation-sym xs ys s) (keys_below ys (greatest_key ys) (omega arith))) in
    omega arith

figures_one : (f g : Figures) → f.low ≡ g.low → f.film ≡ g.film → f.drawing ≡ g.drawing → f ≡ g
figures_one f g a b c =
    ap₂ (λ (x y : ℕ). let z : Figures = record { low = x; film = y; drawing = f.drawing } in z) a b
    ∙ ap (λ (x : ℕ). let z : Figures = record { low = g.low; film = g.film; drawing = x } in z) c

module _ (w : World) (fs : Facts w) where
  suspect_one : (e d : Suspect) → e.square ≡ d.square → Right w e → Right w d → e ≡ d
  suspect_one e d q r t =
      let o = (laws w fs).one d.square.level d.square.number e.key e.partner d.key d.partner (subst (λ s. KeyedAt w s.level s.number e.key e.partner) q r) t in
      ap₂ (λ (k : ℕ) (s : Square). let z : Suspect = record { key = k; square = s; partner = e.partner } in z) o.0 q
      ∙ ap (λ (p : ℕ). let z : Suspect = record { key = d.key; square = d.square; partner = p } in z) o.1

  tried_one : (P : ℕ → Type 0) (f g h : Figures) → Tried w P f g → Tried w P f h → g ≡ h
  tried_one P f g h s t = go s.source t.source
    where
      go : Source w P f g → Source w P f h → g ≡ h
      go (inl a) (inl b) = a ∙ sym b
      go (inl a) (inr b) = absurd (s.best h.film h.low h.drawing b.0 b.1 b.2 (subst (λ x. Improves x h.low h.film) (sym a) b.3))
      go (inr a) (inl b) = absurd (t.best g.film g.low g.drawing a.0 a.1 a.2 (subst (λ x. Improves x g.low g.film) (sym b) a.3))
      go (inr a) (inr b) =
          let x = settled_from g h.low h.film (s.best h.film h.low h.drawing b.0 b.1 b.2) in
          let y = settled_from h g.low g.film (t.best g.film g.low g.drawing a.0 a.1 a.2) in
          let low : g.low ≡ h.low = omega (arith, x.0, y.0) in
          let film : g.film ≡ h.film = omega (arith, x.1 (sym low), y.1 low) in
          let o = (laws w fs).one 0 h.film g.low g.drawing h.low h.drawing (subst (λ c. KeyedAt w 0 c g.low g.drawing) film a.2) b.2 in
          figures_one g h low film o.1

  -- the key of an entry for a part, and of the part
  part_key : (f : Figures) (l n k : ℕ) (e : Suspect) (key p : ℕ) → e.square ≡ part l n k → Right w e → Improves f e.key (first_code e.square) → KeyedAt w l (4 * n + k) key p → (Improves f key (first_code (part l n k)) → ⊥) → ⊥
  part_key f l n k e key p a r i x j =
      let o = (laws w fs).one l (4 * n + k) e.key e.partner key p (subst (λ s. KeyedAt w s.level s.number e.key e.partner) a r) x in
      j (subst (λ y. Improves f y (first_code (part l n k))) o.0 (subst (λ s. Improves f e.key (first_code s)) a i))

  picked_one : (f : Figures) (l n : ℕ) {k : ℕ} {es ds : List Suspect} → Picked w f l n k es → Picked w f l n k ds → es ≡ ds
  picked_one f l n none none = refl
  picked_one f l n (pick e p x a r i) (pick d q y b t j) = ap₂ (λ (z : Suspect) (zs : List Suspect). z ∷ zs) (suspect_one e d (a ∙ sym b) r t) (picked_one f l n p q)
  picked_one f l n (pick e p x a r i) (pass_empty q y) = absurd (x y)
  picked_one f l n (pick {k = k} e p x a r i) (pass key t q y j) = absurd (part_key f l n k e key t a r i y j)
  picked_one f l n (pass_empty p x) (pick d q y b t j) = absurd (y x)
  picked_one f l n (pass_empty p x) (pass_empty q y) = picked_one f l n p q
  picked_one f l n (pass_empty p x) (pass key t q y j) = picked_one f l n p q
  picked_one f l n (pass {k = k} key t p x i) (pick d q y b u j) = absurd (part_key f l n k d key t b u j x i)
  picked_one f l n (pass key t p x i) (pass_empty q y) = picked_one f l n p q
  picked_one f l n (pass key t p x i) (pass key' t' q y j) = picked_one f l n p q

  handled_one : (s : Suspect) (free : ℕ) (f : Figures) {es ds : List Suspect} {g h : Figures} → Handled w s free f es g → Handled w s free f ds h → (es ≡ ds) × (g ≡ h)
  handled_one s free f (dropped n) (dropped m) = (refl, refl)
  handled_one s free f (dropped n) (settled z i) = absurd (n i)
  handled_one s free f (dropped n) (opened l z i room p) = absurd (n i)
  handled_one s free f (dropped n) (sunk z i room t) = absurd (n i)
  handled_one s free f (settled z i) (dropped n) = absurd (n i)
  handled_one s free f (settled z i) (settled y j) = (refl, refl)
  handled_one s free f (settled z i) (opened l y j room p) = absurd (omega arith)
  handled_one s free f (settled z i) (sunk y j room t) = absurd (omega arith)
  handled_one s free f (opened l z i room p) (dropped n) = absurd (n i)
  handled_one s free f (opened l z i room p) (settled y j) = absurd (omega arith)
  handled_one s free f (opened l z i room p) (opened {es = es} l' y j room' q) = (picked_one f l s.square.number p (subst (λ x. Picked w f x s.square.number 4 es) (let e : l' ≡ l = omega arith in e) q), refl)
  handled_one s free f (opened l z i room p) (sunk y j few t) = absurd (omega arith)
  handled_one s free f (sunk z i few t) (dropped n) = absurd (n i)
  handled_one s free f (sunk z i few t) (settled y j) = absurd (omega arith)
  handled_one s free f (sunk z i few t) (opened l y j room p) = absurd (omega arith)
  handled_one s free f (sunk {g = g} z i few t) (sunk {g = h} y j few' u) = (refl, tried_one (Inside s.square.level s.square.number) f g h t u)

  step_one : (st st' su su' : State) → Same st su → Advanced w st st' → Advanced w su su' → Same st' su'
  step_one st st' su su' m p q =
      let all : IsPermutation (p.taken_one ∷ p.rest) (q.taken_one ∷ q.rest) =
      IsPermutation-trans _ st.waiting _ (IsPermutation-sym st.waiting (p.taken_one ∷ p.rest) p.split) (IsPermutation-trans st.waiting su.waiting _ m.waiting q.split) in
      let t : p.taken_one ≡ q.taken_one = first_one p.taken_one q.taken_one p.rest q.rest all p.was_first q.was_first in
      let rest : IsPermutation p.rest q.rest = shuffled_rest q.taken_one p.rest q.rest (subst (λ x. IsPermutation (x ∷ p.rest) (q.taken_one ∷ q.rest)) t all) in
      let long : length p.rest ≡ length q.rest = sym (length_permutation p.rest q.rest rest) in
      let h : Handled w q.taken_one (w.suspects - length q.rest) su.figures p.queued_now st'.figures =
      subst (λ x. Handled w q.taken_one (w.suspects - length q.rest) x p.queued_now st'.figures) m.figures
      (subst (λ x. Handled w q.taken_one (w.suspects - x) st.figures p.queued_now st'.figures) long
      (subst (λ x. Handled w x (w.suspects - length p.rest) st.figures p.queued_now st'.figures) t p.handled)) in
      let o = handled_one q.taken_one (w.suspects - length q.rest) su.figures h q.handled in
      record {
        begun = p.begun ∙ sym q.begun;
        figures = o.1;
        queued = p.queued ∙ ap₂ counted m.queued (ap length o.0) ∙ sym q.queued;
        taken = p.taken ∙ ap (λ x. counted x 1) m.taken ∙ sym q.taken;
        waiting = IsPermutation-trans st'.waiting (p.queued_now ++ p.rest) su'.waiting p.waiting
            (IsPermutation-trans (p.queued_now ++ p.rest) (q.queued_now ++ q.rest) su'.waiting
            (subst (λ x. IsPermutation (p.queued_now ++ p.rest) (x ++ q.rest)) o.0 (IsPermutation-append_right p.queued_now p.rest q.rest rest))
            (IsPermutation-sym su'.waiting (q.queued_now ++ q.rest) q.waiting));
      }

  opening_one : (st su : State) → Opening w st → Opening w su → Same st su
  opening_one st su p q =
      let film : st.figures.film ≡ su.figures.film = omega (arith, p.first.first su.figures.film q.first.held, q.first.first st.figures.film p.first.held) in
      let o = (laws w fs).one 0 su.figures.film st.figures.low st.figures.drawing su.figures.low su.figures.drawing (subst (λ c. KeyedAt w 0 c st.figures.low st.figures.drawing) film p.partner) q.partner in
      let b = suspect_one p.board q.board (p.whole ∙ sym q.whole) p.right q.right in
      record {
        begun = p.begun ∙ sym q.begun;
        figures = figures_one st.figures su.figures o.0 film o.1;
        queued = p.queued ∙ sym q.queued;
        taken = p.taken ∙ sym q.taken;
        waiting = subst (IsPermutation st.waiting) (p.waiting ∙ ap (λ x. x ∷ []) b ∙ sym q.waiting) (IsPermutation-refl st.waiting);
      }

  abbrev One : State → Said → State → Said → Type 0
  One st' o su' u = (o ≡ u) × Same st' su'

  begin_one : (st st' su su' : State) (o u : Said) → Same st su → Begins w st o st' → Begins w su u su' → One st' o su' u
  begin_one st st' su su' o u m (begins e h k d p) (begins e' h' k' d' q) = (refl, opening_one st' su' p q)
  begin_one st st' su su' o u m (begins e h k d p) (no_suspects h') = absurd (omega arith)
  begin_one st st' su su' o u m (begins e h k d p) (no_neighbours h' k') = absurd (omega arith)
  begin_one st st' su su' o u m (begins e h k d p) (no_film h' k' n) = absurd (n st'.figures.film p.first.held)
  begin_one st st' su su' o u m (begins e h k d p) (no_drawing c h' k' f n) = absurd (n e d)
  begin_one st st' su su' o u m (no_suspects h) (begins e' h' k' d' q) = absurd (omega arith)
  begin_one st st' su su' o u m (no_suspects h) (no_suspects h') = (refl, m)
  begin_one st st' su su' o u m (no_suspects h) (no_neighbours h' k') = absurd (omega arith)
  begin_one st st' su su' o u m (no_suspects h) (no_film h' k' n) = absurd (omega arith)
  begin_one st st' su su' o u m (no_suspects h) (no_drawing c h' k' f n) = absurd (omega arith)
  begin_one st st' su su' o u m (no_neighbours h k) (begins e' h' k' d' q) = absurd (omega arith)
  begin_one st st' su su' o u m (no_neighbours h k) (no_suspects h') = absurd (omega arith)
  begin_one st st' su su' o u m (no_neighbours h k) (no_neighbours h' k') = (refl, m)
  begin_one st st' su su' o u m (no_neighbours h k) (no_film h' k' n) = absurd (omega arith)
  begin_one st st' su su' o u m (no_neighbours h k) (no_drawing c h' k' f n) = absurd (omega arith)
  begin_one st st' su su' o u m (no_film h k n) (begins e' h' k' d' q) = absurd (n su'.figures.film q.first.held)
  begin_one st st' su su' o u m (no_film h k n) (no_suspects h') = absurd (omega arith)
  begin_one st st' su su' o u m (no_film h k n) (no_neighbours h' k') = absurd (omega arith)
  begin_one st st' su su' o u m (no_film h k n) (no_film h' k' n') = (refl, m)
  begin_one st st' su su' o u m (no_film h k n) (no_drawing c h' k' f n') = absurd (n c f)
  begin_one st st' su su' o u m (no_drawing c h k f n) (begins e' h' k' d' q) = absurd (n e' d')
  begin_one st st' su su' o u m (no_drawing c h k f n) (no_suspects h') = absurd (omega arith)
  begin_one st st' su su' o u m (no_drawing c h k f n) (no_neighbours h' k') = absurd (omega arith)
  begin_one st st' su su' o u m (no_drawing c h k f n) (no_film h' k' n') = absurd (n' c f)
  begin_one st st' su su' o u m (no_drawing c h k f n) (no_drawing c' h' k' f' n') = (refl, m)

  -- begun in the one and not in the other
  apart : {X : Type 0} (st su : State) → Same st su → st.begun ≡ true → su.begun ≡ false → X
  apart st su m a b = absurd (both_ways su.begun b (sym m.begun ∙ a))

  apart_back : {X : Type 0} (st su : State) → Same st su → st.begun ≡ false → su.begun ≡ true → X
  apart_back st su m a b = absurd (both_ways su.begun (sym m.begun ∙ a) b)

  same_long : (st su : State) → Same st su → length su.waiting ≡ length st.waiting
  same_long st su m = length_permutation st.waiting su.waiting m.waiting

  steps_one : (st st' su su' : State) (o u : Said) → Same st su → Steps w st o st' → Steps w su u su' → One st' o su' u
  steps_one st st' su su' o u m (steps b p) (steps c q) = (refl, step_one st st' su su' m p q)
  steps_one st st' su su' o u m (steps b p) (step_early c) = apart st su m b c
  steps_one st st' su su' o u m (steps b p) (step_late c e) = absurd (omega (arith, same_long st su m, ap length e, length_permutation st.waiting (p.taken_one ∷ p.rest) p.split))
  steps_one st st' su su' o u m (step_early b) (steps c q) = apart_back st su m b c
  steps_one st st' su su' o u m (step_early b) (step_early c) = (refl, m)
  steps_one st st' su su' o u m (step_early b) (step_late c e) = (refl, m)
  steps_one st st' su su' o u m (step_late b e) (steps c q) = absurd (omega (arith, same_long st su m, ap length e, length_permutation su.waiting (q.taken_one ∷ q.rest) q.split))
  steps_one st st' su su' o u m (step_late b e) (step_early c) = (refl, m)
  steps_one st st' su su' o u m (step_late b e) (step_late c d) = (refl, m)

  probes_one : (st st' su su' : State) (c : ℕ) (o u : Said) → Same st su → Probes w st c o st' → Probes w su c u su' → One st' o su' u
  probes_one st st' su su' c o u m (probes {g = g} b h t) (probes {g = g'} b' h' t') =
      (refl, record { begun = refl; figures = tried_one (λ x. x ≡ c) su.figures g g' (subst (λ f. Tried w (λ x. x ≡ c) f g) m.figures t) t'; queued = m.queued; taken = m.taken; waiting = m.waiting })
  probes_one st st' su su' c o u m (probes b h t) (not_held n) = absurd (n h)
  probes_one st st' su su' c o u m (probes b h t) (probe_early h' b') = apart st su m b b'
  probes_one st st' su su' c o u m (not_held n) (probes b h t) = absurd (n h)
  probes_one st st' su su' c o u m (not_held n) (not_held n') = (refl, m)
  probes_one st st' su su' c o u m (not_held n) (probe_early h b) = absurd (n h)
  probes_one st st' su su' c o u m (probe_early h b) (probes b' h' t) = apart_back st su m b b'
  probes_one st st' su su' c o u m (probe_early h b) (not_held n) = absurd (n h)
  probes_one st st' su su' c o u m (probe_early h b) (probe_early h' b') = (refl, m)

  looks_one : (st st' su su' : State) (o u : Said) → Same st su → Looks w st o st' → Looks w su u su' → One st' o su' u
  looks_one st st' su su' o u m (looks b) (looks c) =
      let f = m.figures in
      let g = greatest_shuffled st.waiting su.waiting m.waiting in
      let hi : high st ≡ high su = ap₂ (λ x y. max x.low y) f g in
      let n = sym (same_long st su m) in
      let low : st.figures.low ≡ su.figures.low = ap (λ x. x.low) f in
      let a : st.figures.film ≡ su.figures.film = ap (λ x. x.film) f in
      let d : st.figures.drawing ≡ su.figures.drawing = ap (λ x. x.drawing) f in
      let q = m.queued in
      let t = m.taken in
      (cc, m)
  looks_one st st' su su' o u m (looks b) (look_early c) = apart st su m b c
  looks_one st st' su su' o u m (look_early b) (looks c) = apart_back st su m b c
  looks_one st st' su su' o u m (look_early b) (look_early c) = (refl, m)

  results_one : (st st' su su' : State) (o u : Said) → Same st su → Results w st o st' → Results w su u su' → One st' o su' u
  results_one st st' su su' o u m (results b e) (results c d) = (ap (λ f. answered f.low f.film f.drawing) m.figures, m)
  results_one st st' su su' o u m (results b e) (result_early c) = apart st su m b c
  results_one st st' su su' o u m (results b e) (result_waits c h) = absurd (omega (arith, same_long st su m, ap length e))
  results_one st st' su su' o u m (result_early b) (results c d) = apart_back st su m b c
  results_one st st' su su' o u m (result_early b) (result_early c) = (refl, m)
  results_one st st' su su' o u m (result_early b) (result_waits c h) = apart_back st su m b c
  results_one st st' su su' o u m (result_waits b h) (results c d) = absurd (omega (arith, same_long st su m, ap length d))
  results_one st st' su su' o u m (result_waits b h) (result_early c) = apart st su m b c
  results_one st st' su su' o u m (result_waits b h) (result_waits c k) = (ap (λ n. refused 17 n) (sym (same_long st su m)), m)

  does_one : (st st' su su' : State) (c : Call) (o u : Said) → Same st su → Does w st c o st' → Does w su c u su' → One st' o su' u
  does_one st st' su su' Begin o u m d e = begin_one st st' su su' o u m d e
  does_one st st' su su' Step o u m d e = steps_one st st' su su' o u m d e
  does_one st st' su su' (Probe c) o u m d e = probes_one st st' su su' (code_of c) o u m d e
  does_one st st' su su' Look o u m d e = looks_one st st' su su' o u m d e
  does_one st st' su su' Result o u m d e = results_one st st' su su' o u m d e

  run_one : {st st' su su' : State} {cs : List Call} {os us : List Said} → Same st su → Run w st cs os st' → Run w su cs us su' → (os ≡ us) × Same st' su'
  run_one m stop stop = (refl, m)
  run_one m (next d r) (next e q) =
      let a = does_one _ _ _ _ _ _ _ m d e in
      let b = run_one a.1 r q in
      (ap₂ (λ (x : Said) (xs : List Said). x ∷ xs) a.0 b.0, b.1)

pub runs_are_one : RunsAreOne
runs_are_one w fs cs os os' st st' r q = run_one w fs (record { begun = refl; figures = refl; queued = refl; taken = refl; waiting = IsPermutation-refl [] }) r q

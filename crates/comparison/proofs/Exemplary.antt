-- The runs over real stores.
use Rattle.std.proofs.Common.{◌≡◌, ℕ, zero, suc, ◌-◌, ◌/◌, ◌^◌, ◌<◌, ◌≤◌, true, ◌⊎◌, List, [], ◌∷◌, ◌++◌, get_or, replicate, sym, refl, ap, ◌∙◌, subst, inl, inr, div-one, add-one, arith}
use native.Mathlib.Nat.{div-eq_of_lt, pow-le-pow_right}
use Rattle.std.proofs.lemmas.List.Sorted.{IsPermutation-refl}
use Rattle.board.specs.Distances.{distance, far}
use Rattle.board.specs.Lists.{Has}
use Rattle.board.specs.Measures.{squared, squared_laws}
use Rattle.board.specs.Morton.{digits}
use Rattle.board.specs.Spans.{first, last, greatest, gap}
use Rattle.board.specs.Squares.{OnBoard, Inside}
use Rattle.board.specs.SquareOrderFacts.{four_positive}
use Rattle.board.proofs.Bounded.{bounds}
use Rattle.store.specs.Exact.{exact, occupied}
use Rattle.store.specs.ExactFacts.{exact_facts, exactly_list, else_empty, empty_no_count}
use Rattle.store.specs.Stores.{Counts}
use Rattle.store.specs.declared.store.Answer.TheVariants.{Empty}
use Rattle.comparison.specs.declared.call.Call.{Call}
use Rattle.comparison.specs.declared.call.Call.TheVariants.{Begin, Step}
use Rattle.comparison.specs.declared.record.Figures.{Figures}
use Rattle.comparison.specs.declared.suspect.Suspect.{Suspect}
use Rattle.comparison.specs.Calls.{State, Said, Run, Advanced, Opening, Tried, Improves, fresh}
use Rattle.comparison.specs.Calls.Said.{begun, stepped}
use Rattle.comparison.specs.Calls.Picked.{none, pick, pass_empty, pass}
use Rattle.comparison.specs.Calls.Handled.{dropped, settled, opened, sunk}
use Rattle.comparison.specs.Calls.Begins.{begins}
use Rattle.comparison.specs.Calls.Steps.{steps, step_early, step_late}
use Rattle.comparison.specs.Calls.Probes.{probes, not_held}
use Rattle.comparison.specs.Calls.Results.{results, result_waits}
use Rattle.comparison.specs.Calls.Run.{stop, next}
use Rattle.comparison.specs.Examples.{films, film_codes, drawing_codes, RunsExist}
use Rattle.comparison.specs.World.{Facts, InFilm, KeyedAt}
use Rattle.comparison.proofs.Keying.{laws}

facts : (p : ℕ) → Facts (films p)
facts p = record { film = exact_facts film_codes; drawing = exact_facts drawing_codes; measure = squared_laws }

-- ---- amounts

apart_3 : distance squared 3 0 ≡ 2
unfolding distance gap digits
apart_3 = refl

far_3 : far squared 0 3 0 0 ≡ 2
unfolding far first last greatest digits
far_3 = refl

far_0 : far squared 0 0 0 0 ≡ 0
unfolding far first last greatest digits
far_0 = refl

small : (c l : ℕ) → c < 4 → 1 ≤ l → c / 4 ^ l ≡ 0
small c l h g = let p : 4 ^ 1 ≤ 4 ^ l = pow-le-pow_right (omega arith) g in div-eq_of_lt (omega arith)

big : (l : ℕ) → 1 ≤ l → 2 ≤ far squared l 0 l 0
big l h =
    let b = (bounds squared squared_laws).far_cells l l 3 0 (omega arith) (omega arith) in
    let c : distance squared 3 0 ≤ far squared l 0 l 0 = subst (λ x. distance squared 3 0 ≤ far squared l 0 l x) (small 0 l (omega arith) h) (subst (λ x. distance squared 3 0 ≤ far squared l x l (0 / 4 ^ l)) (small 3 l (omega arith) h) b) in
    omega (arith, apart_3)

-- ---- stores

in_drawing : (k : ℕ) → k < 1 → get_or drawing_codes k 0 ≡ 0
in_drawing zero h = refl
in_drawing (suc k) h = absurd (omega arith)

in_film : (k : ℕ) → k < 2 → (get_or film_codes k 0 ≡ 0) ⊎ (get_or film_codes k 0 ≡ 3)
in_film zero h = inl refl
in_film (suc zero) h = inr refl
in_film (suc (suc k)) h = absurd (omega arith)

zero_in : (l : ℕ) → 0 / 4 ^ l ≡ 0
zero_in l = div-eq_of_lt (four_positive l)

on_board : (l : ℕ) → l ≤ 16 → OnBoard l 0
on_board l h = (h, four_positive (16 - l))

drawing_only : (l q : ℕ) → Counts (exact drawing_codes l q) → q ≡ 0
drawing_only l q y =
    let s = ((exactly_list drawing_codes).shown l q y).1 in
    let z : s.0 ≡ 0 = sym s.1.2 ∙ in_drawing s.1.0 s.1.1 in
    sym s.2 ∙ ap (λ c. c / 4 ^ l) z ∙ zero_in l

drawing_zero : (l : ℕ) → l ≤ 16 → Counts (exact drawing_codes l 0)
drawing_zero l h = (exactly_list drawing_codes).shared l 0 (on_board l h) (0, (0, omega arith, refl), zero_in l)

film_zero : (l : ℕ) → l ≤ 16 → exact film_codes l 0 ≡ Empty → ⊥
film_zero l h e = empty_no_count (exact film_codes l 0) e ((exactly_list film_codes).shared l 0 (on_board l h) (0, (0, omega arith, refl), zero_in l))

-- a cell that is held is one of the two
film_only : (c : ℕ) → InFilm (films 0) c → (c ≡ 0) ⊎ (c ≡ 3)
film_only c y =
    let s = ((exactly_list film_codes).shown 0 c y).1 in
    let e : s.0 ≡ c = sym (div-one s.0) ∙ s.2 in
    go s.0 e (in_film s.1.0 s.1.1) s.1.2
  where
    go : (a : ℕ) {b : ℕ} → a ≡ c → (b ≡ 0) ⊎ (b ≡ 3) → b ≡ a → (c ≡ 0) ⊎ (c ≡ 3)
    go a e (inl z) f = inl (sym e ∙ sym f ∙ z)
    go a e (inr z) f = inr (sym e ∙ sym f ∙ z)

film_off : (l k : ℕ) → 1 ≤ l → 1 ≤ k → exact film_codes l k ≡ Empty
film_off l k h g = else_empty (Has film_codes) (exact film_codes) (exactly_list film_codes) l k (λ y.
    let s = ((exactly_list film_codes).shown l k y).1 in
    go s.0 (in_film s.1.0 s.1.1) s.1.2 s.2)
  where
    go : (a : ℕ) {b : ℕ} → (b ≡ 0) ⊎ (b ≡ 3) → b ≡ a → a / 4 ^ l ≡ k → ⊥
    go a (inl z) f i = omega (arith, small a l (omega arith) h)
    go a (inr z) f i = omega (arith, small a l (omega arith) h)

held_0 : InFilm (films 0) 0
unfolding occupied
held_0 = refl

held_3 : InFilm (films 0) 3
unfolding occupied
held_3 = refl

off_1 : exact film_codes 0 1 ≡ Empty
unfolding occupied
off_1 = refl

off_2 : exact film_codes 0 2 ≡ Empty
unfolding occupied
off_2 = refl

on_3 : exact film_codes 0 3 ≡ Empty → ⊥
on_3 e = empty_no_count (exact film_codes 0 3) e held_3

-- ---- keys

keyed : (p l n : ℕ) → l ≤ 16 → KeyedAt (films p) l n (far squared l n l 0) 0
keyed p l n h = inl (record {
  counted = drawing_zero l h;
  amount = refl;
  least = λ q y. subst (λ x. far squared l n l 0 ≤ far squared l n l x) (sym (drawing_only l q y)) (omega arith);
  earliest = λ q y e. omega arith;
})

keyed_0 : (p : ℕ) → KeyedAt (films p) 0 0 0 0
keyed_0 p = subst (λ k. KeyedAt (films p) 0 0 k 0) far_0 (keyed p 0 0 (omega arith))

keyed_3 : (p : ℕ) → KeyedAt (films p) 0 3 2 0
keyed_3 p = subst (λ k. KeyedAt (films p) 0 3 k 0) far_3 (keyed p 0 3 (omega arith))

-- ---- states

abbrev low_0 : Figures
low_0 = record { low = 0; film = 0; drawing = 0 }

abbrev low_2 : Figures
low_2 = record { low = 2; film = 3; drawing = 0 }

abbrev sus : ℕ → Suspect
sus l = record { key = far squared l 0 l 0; square = record { level = l; number = 0 }; partner = 0 }

abbrev cell_3 : Suspect
cell_3 = record { key = 2; square = record { level = 0; number = 3 }; partner = 0 }

abbrev at : ℕ → State
at l = record { begun = true; figures = low_0; queued = 17 - l; taken = 16 - l; waiting = sus l ∷ [] }

abbrev at_cell : Figures → State
at_cell f = record { begun = true; figures = f; queued = 17; taken = 16; waiting = cell_3 ∷ [] }

abbrev ended : ℕ → State
ended n = record { begun = true; figures = low_2; queued = n; taken = n; waiting = [] }

opens_board : (p : ℕ) → Opening (films p) (at 16)
opens_board p = record {
  first = record { held = held_0; first = λ c h. omega arith };
  partner = keyed_0 p;
  begun = refl;
  queued = refl;
  taken = refl;
  board = sus 16;
  waiting = refl;
  whole = refl;
  right = keyed p 16 0 (omega arith);
}

-- the square of level l + 1 is opened, and one quarter is queued
opens : (l : ℕ) → 1 ≤ l → l ≤ 15 → Advanced (films 4) (at (suc l)) (at l)
opens l h g = record {
  taken_one = sus (suc l);
  queued_now = sus l ∷ [];
  rest = [];
  split = IsPermutation-refl (sus (suc l) ∷ []);
  was_first = tt;
  handled = opened l (sym (add-one l)) (inl (let b = big (suc l) (omega arith) in omega arith)) (omega arith)
      (pass_empty (pass_empty (pass_empty (pick (sus l) none (film_zero l (omega arith)) refl (keyed 4 l 0 (omega arith)) (inl (let b = big l h in omega arith)))
      (film_off l 1 h (omega arith))) (film_off l 2 h (omega arith))) (film_off l 3 h (omega arith)));
  waiting = IsPermutation-refl (sus l ∷ []);
  begun = refl;
  queued = omega arith;
  taken = omega arith;
}

-- the square of level 1: its first cell does not improve, its last does
opens_last : Advanced (films 4) (at 1) (at_cell low_0)
opens_last = record {
  taken_one = sus 1;
  queued_now = cell_3 ∷ [];
  rest = [];
  split = IsPermutation-refl (sus 1 ∷ []);
  was_first = tt;
  handled = opened 0 refl (inl (let b = big 1 (omega arith) in omega arith)) (omega arith)
      (pick cell_3 (pass_empty (pass_empty (pass 0 0 none (keyed_0 4) (λ i. omega arith)) off_1) off_2) on_3 refl (keyed_3 4) (inl (omega arith)));
  waiting = IsPermutation-refl (cell_3 ∷ []);
  begun = refl;
  queued = refl;
  taken = refl;
}

settles : Advanced (films 4) (at_cell low_0) (ended 17)
settles = record {
  taken_one = cell_3;
  queued_now = [];
  rest = [];
  split = IsPermutation-refl (cell_3 ∷ []);
  was_first = tt;
  handled = settled refl (inl (omega arith));
  waiting = IsPermutation-refl [];
  begun = refl;
  queued = refl;
  taken = refl;
}

drops : Advanced (films 4) (at_cell low_2) (ended 17)
drops = record {
  taken_one = cell_3;
  queued_now = [];
  rest = [];
  split = IsPermutation-refl (cell_3 ∷ []);
  was_first = tt;
  handled = dropped (λ i. omega arith);
  waiting = IsPermutation-refl [];
  begun = refl;
  queued = refl;
  taken = refl;
}

-- no cell improves the figures of the last
best : (p c k q : ℕ) → InFilm (films 0) c → KeyedAt (films p) 0 c k q → Improves low_2 k c → ⊥
best p c k q o r i = go (film_only c o)
  where
    go : (c ≡ 0) ⊎ (c ≡ 3) → ⊥
    go (inl e) = let u = (laws (films p) (facts p)).one 0 0 k q 0 0 (subst (λ x. KeyedAt (films p) 0 x k q) e r) (keyed_0 p) in omega (arith, u.0)
    go (inr e) = let u = (laws (films p) (facts p)).one 0 3 k q 2 0 (subst (λ x. KeyedAt (films p) 0 x k q) e r) (keyed_3 p) in omega (arith, u.0)

tried : (p : ℕ) (P : ℕ → Type 0) → P 3 → Tried (films p) P low_0 low_2
tried p P h = record { source = inr (h, held_3, keyed_3 p, inl (omega arith)); best = λ c k q x o r i. best p c k q o r i }

sinks : Advanced (films 1) (at 16) (ended 1)
sinks = record {
  taken_one = sus 16;
  queued_now = [];
  rest = [];
  split = IsPermutation-refl (sus 16 ∷ []);
  was_first = tt;
  handled = sunk (omega arith) (inl (let b = big 16 (omega arith) in omega arith)) (omega arith) (tried 1 (Inside 16 0) refl);
  waiting = IsPermutation-refl [];
  begun = refl;
  queued = refl;
  taken = refl;
}

-- from the square of level l + 1 down to the cell
descends : (l : ℕ) → l ≤ 15 → {cs : List Call} {os : List Said} {st : State} → Run (films 4) (at_cell low_0) cs os st → Run (films 4) (at (suc l)) (replicate (suc l) Step ++ cs) (replicate (suc l) stepped ++ os) st
descends zero h r = next (steps refl opens_last) r
descends (suc l) h r = next (steps refl (opens (suc l) (omega arith) h)) (descends l (omega arith) r)

begins_so : (p : ℕ) → 0 < p → {cs : List Call} {os : List Said} {st : State} → Run (films p) (at 16) cs os st → Run (films p) fresh (Begin ∷ cs) (begun ∷ os) st
begins_so p h r = next (begins 0 h (omega arith) (drawing_zero 0 (omega arith)) (opens_board p)) r

not_beside : InFilm (films 0) 1 → ⊥
not_beside y = empty_no_count (exact film_codes 0 1) off_1 y

pub runs_exist : RunsExist
unfolding digits
runs_exist = record {
  facts = facts;
  opened_and_settled = (
    ended 17,
    refl,
    refl,
    next (step_early refl) (begins_so 4 (omega arith) (descends 15 (omega arith) (next (steps refl settles) (next (results refl refl) stop)))),
  );
  probed_and_dropped = (
    ended 17,
    refl,
    refl,
    begins_so 4 (omega arith) (descends 15 (omega arith)
        (next (result_waits refl (omega arith)) (next (probes refl held_3 (tried 4 (λ x. x ≡ 3) refl)) (next (steps refl drops) (next (results refl refl) (next (not_held not_beside) stop)))))),
  );
  finished_in_depth = (
    ended 1,
    refl,
    refl,
    begins_so 1 (omega arith) (next (steps refl sinks) (next (results refl refl) (next (step_late refl refl) stop))),
  );
}

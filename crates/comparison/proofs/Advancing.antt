-- The parts of a step, joined.
use Rattle.std.proofs.Common.{◌≡◌, ℕ, suc, ◌+◌, ◌-◌, ◌<◌, ◌≤◌, Bool, true, false, List, [], ◌∷◌, ◌++◌, length, Some, None, Option, sum_by, sym, refl, ap, ◌∙◌, subst, append_assoc, add-one, arith, length-append}
use Rattle.std.specs.List.Sorted.{IsPermutation}
use Rattle.std.specs.List.{AllByRecursion}
use Rattle.std.proofs.lemmas.List.Sorted.{IsPermutation-refl, IsPermutation-sym, IsPermutation-trans, IsPermutation-append_right, length_permutation, sum_by-IsPermutation}
use Rattle.std.proofs.ByRecursion.{all_shuffled}
use Rattle.std.proofs.lemmas.List.Sums.{sum_by-cons}
use Rattle.board.specs.declared.square.Square.{Square}
use Rattle.search.specs.Offers.{weight}
use Rattle.search.specs.WaitingLists.{waiting, room, Added, Taken, Ready, InHeap}
use Rattle.search.specs.declared.waiting.WaitingList.{WaitingList}
use Rattle.store.specs.declared.store.Answer.{Answer}
use Rattle.comparison.specs.declared.comparison.Comparison.{Comparison}
use Rattle.comparison.specs.declared.ground.Ground.{Ground}
use Rattle.comparison.specs.declared.suspect.Suspect.{Suspect}
use Rattle.comparison.specs.Advances.{Offer, Queues, Offered, Opened, Handles, Started}
use Rattle.comparison.specs.Advances.Offer.{put as offer_put, pass_empty as offer_empty, pass as offer_pass}
use Rattle.board.specs.Squares.{Inside}
use Rattle.comparison.specs.Calls.{Improves, Right, Picked, Handled, Tried, part}
use Rattle.comparison.specs.Calls.Picked.{none, pick, pass_empty, pass}
use Rattle.comparison.specs.Calls.Handled.{dropped, settled, opened, sunk}
use Rattle.comparison.specs.Comparisons.{state, world}
use Rattle.board.specs.SquareOrder.{first_code}
use Rattle.comparison.specs.Suspects.{before}
use Rattle.comparison.specs.Trials.{over, Stays}
use Rattle.comparison.specs.Waits.{On}
use Rattle.comparison.specs.World.{World, KeyedAt}
use Rattle.comparison.proofs.Handling.{picked_length}

-- one thing, shuffled
shuffled_one : {X : Type 0} (x : X) (ys : List X) → IsPermutation (x ∷ []) ys → ys ≡ x ∷ []
shuffled_one x [] s = absurd (omega (arith, length_permutation (x ∷ []) [] s))
shuffled_one x (y ∷ []) s = let h = all_shuffled (λ z. z ≡ x) (x ∷ []) (y ∷ []) s (refl, tt) in ap (λ z. z ∷ []) h.0
shuffled_one x (y ∷ z ∷ zs) s = absurd (omega (arith, length_permutation (x ∷ []) (y ∷ z ∷ zs) s))

-- what a list keeps that gains an entry, or is full
pub added_order : (v : WaitingList Suspect) (e : Suspect) (b : Bool) (w : WaitingList Suspect) → Added before v e b w → Ready before v → Ready before w
added_order v e true w a h = a.2 h
added_order v e false w a h = subst (InHeap before) (sym a.1) h

pub added_board : (v : WaitingList Suspect) (e : Suspect) (b : Bool) (w : WaitingList Suspect) → Added before v e b w → On e → AllByRecursion On (waiting v) → AllByRecursion On (waiting w)
added_board v e true w a on h = all_shuffled On (e ∷ waiting v) (waiting w) a.1 (on, h)
added_board v e false w a on h = subst (AllByRecursion On) (sym a.1) h

-- and one that loses an entry, or is empty
pub taken_order : (v : WaitingList Suspect) (o : Option Suspect) (w : WaitingList Suspect) → Taken before v o w → Ready before v → Ready before w
taken_order v None w t h = subst (InHeap before) (t.0 ∙ sym t.1) h
taken_order v (Some s) w t h = (t.1 h).0

pub taken_board : (v : WaitingList Suspect) (o : Option Suspect) (w : WaitingList Suspect) → Taken before v o w → AllByRecursion On (waiting v) → AllByRecursion On (waiting w)
taken_board v None w t h = subst (AllByRecursion On) (t.0 ∙ sym t.1) h
taken_board v (Some s) w t h = (all_shuffled On (waiting v) (s ∷ waiting w) t.0 h).1

pub taken_on : (v : WaitingList Suspect) (s : Suspect) (w : WaitingList Suspect) → Taken before v (Some s) w → AllByRecursion On (waiting v) → On s
taken_on v s w t h = (all_shuffled On (waiting v) (s ∷ waiting w) t.0 h).0

-- where a place is free, it gains the entry
pub added_here : (v : WaitingList Suspect) (e : Suspect) (b : Bool) (w : WaitingList Suspect) → length (waiting v) < room v → Added before v e b w → Added before v e true w
added_here v e true w h a = a
added_here v e false w h a = absurd (omega (arith, a.0))

-- what one more entry weighs
pub added_weight : (v : WaitingList Suspect) (e : Suspect) (w : WaitingList Suspect) → Added before v e true w → sum_by (λ s. weight s.square) (waiting w) ≡ weight e.square + sum_by (λ s. weight s.square) (waiting v)
added_weight v e w a = sum_by-IsPermutation (λ s. weight s.square) (e ∷ waiting v) (waiting w) a.1 ∙ sum_by-cons (λ s. weight s.square) e (waiting v)

module _ {A B M : Type 0} (film : A → ℕ → ℕ → Answer) (drawing : B → ℕ → ℕ → Answer) (amount : M → ℕ → ℕ → ℕ) where
  -- the world stays with so many places too
  over_any : (n : ℕ) (u v : Ground A B M) → over film drawing amount 0 v ≡ over film drawing amount 0 u → over film drawing amount n v ≡ over film drawing amount n u
  over_any n u v e =
      ap (λ (w : World). let x : World = record { film = w.film; drawing = w.drawing; measure = w.measure; suspects = n; neighbours = w.neighbours } in x) e

  pub over_places : (n : ℕ) (u v : Ground A B M) → Stays film drawing amount u v → over film drawing amount n v ≡ over film drawing amount n u
  over_places n u v s = over_any n u v s.world

  -- nothing was queued
  pub queues_none : (c d : Comparison A B M) → Stays film drawing amount c.trial.ground d.trial.ground → d.suspects ≡ c.suspects → d.progress ≡ c.progress → Queues film drawing amount c [] d
  queues_none c d s e p = record {
    same_world = ap (λ v. over film drawing amount (room v) d.trial.ground) e ∙ over_places (room c.suspects) c.trial.ground d.trial.ground s;
    waits = subst (λ v. IsPermutation (waiting v) (waiting c.suspects)) (sym e) (IsPermutation-refl (waiting c.suspects));
    progress = p;
  }

  -- one square was queued
  pub queues_one : (c d : Comparison A B M) (e : Suspect) → Stays film drawing amount c.trial.ground d.trial.ground → room d.suspects ≡ room c.suspects → Added before c.suspects e true d.suspects → d.progress ≡ c.progress
      → Queues film drawing amount c (e ∷ []) d
  queues_one c d e s places a p = record {
    same_world = ap (λ n. over film drawing amount n d.trial.ground) places ∙ over_places (room c.suspects) c.trial.ground d.trial.ground s;
    waits = IsPermutation-sym (e ∷ waiting c.suspects) (waiting d.suspects) a.1;
    progress = p;
  }

  -- one after the other
  queues_onward : (c d e : Comparison A B M) (xs ys : List Suspect) → Queues film drawing amount c xs d → Queues film drawing amount d ys e → Queues film drawing amount c (ys ++ xs) e
  queues_onward c d e xs ys a b = record {
    same_world = b.same_world ∙ a.same_world;
    waits = subst (IsPermutation (waiting e.suspects)) (sym (append_assoc ys xs (waiting c.suspects)))
        (IsPermutation-trans (waiting e.suspects) (ys ++ waiting d.suspects) (ys ++ (xs ++ waiting c.suspects)) b.waits (IsPermutation-append_right ys (waiting d.suspects) (xs ++ waiting c.suspects) a.waits));
    progress = b.progress ∙ a.progress;
  }

  pub opened_none : (c : Comparison A B M) (l n : ℕ) → Opened film drawing amount c l n 0 c
  opened_none c l n = record {
    es = [];
    queues = queues_none c c (record { world = refl; idle = λ e. e }) refl refl;
    figures = refl;
    picked = none;
  }

  -- one more quarter was offered
  pub opened_more : (c d e : Comparison A B M) (l n k : ℕ) (q : Square) → q ≡ part l n k → Opened film drawing amount c l n k d → Offered film drawing amount d q e → Opened film drawing amount c l n (k + 1) e
  opened_more c d e l n k q at o f = record {
    es = f.es ++ o.es;
    queues = queues_onward c d e o.es f.es o.queues f.queues;
    figures = f.figures ∙ o.figures;
    picked = subst (λ m. Picked (world film drawing amount c) c.trial.figures l n m (f.es ++ o.es)) (sym (add-one k))
        (go (subst (λ x. Offer (world film drawing amount c) c.trial.figures x f.es) at
        (subst (λ g. Offer (world film drawing amount c) g q f.es) o.figures (subst (λ w. Offer w d.trial.figures q f.es) o.queues.same_world f.offer))));
  }
    where
      go : {es : List Suspect} → Offer (world film drawing amount c) c.trial.figures (part l n k) es → Picked (world film drawing amount c) c.trial.figures l n (suc k) (es ++ o.es)
      go (offer_put x h s r i) = pick x o.picked h s r i
      go (offer_empty h) = pass_empty o.picked h
      go (offer_pass key p r i) = pass key p o.picked r i

  -- a place is free for one more
  pub opened_room : (c d : Comparison A B M) (l n k : ℕ) → Opened film drawing amount c l n k d → k < 4 → 4 + length (waiting c.suspects) ≤ room c.suspects → length (waiting d.suspects) < room d.suspects
  opened_room c d l n k o h free =
      let long = length_permutation (waiting d.suspects) (o.es ++ waiting c.suspects) o.queues.waits in
      let places : room d.suspects ≡ room c.suspects = ap (λ w. w.suspects) o.queues.same_world in
      omega (arith, length-append o.es (waiting c.suspects), picked_length (world film drawing amount c) c.trial.figures l n o.picked)

  -- a suspect was handled
  pub handles_dropped : (c : Comparison A B M) (s : Suspect) → (Improves c.trial.figures s.key (first_code s.square) → ⊥) → Handles film drawing amount c s c
  handles_dropped c s n = record { es = []; queues = queues_none c c (record { world = refl; idle = λ e. e }) refl refl; handled = dropped n }

  module _ (c d : Comparison A B M) (s : Suspect) (e : d.suspects ≡ c.suspects) (p : d.progress ≡ c.progress) (i : Improves c.trial.figures s.key (first_code s.square)) where
    pub handles_settled : Stays film drawing amount c.trial.ground d.trial.ground → d.trial.figures ≡ record { low = s.key; film = s.square.number; drawing = s.partner } → s.square.level ≡ 0 → Handles film drawing amount c s d
    handles_settled st f z = record {
      es = [];
      queues = queues_none c d st e p;
      handled = subst (Handled (world film drawing amount c) s (room c.suspects - length (waiting c.suspects)) c.trial.figures []) (sym f) (settled z i);
    }

    pub handles_sunk : Stays film drawing amount c.trial.ground d.trial.ground → 0 < s.square.level → room c.suspects - length (waiting c.suspects) < 4
        → Tried (world film drawing amount c) (Inside s.square.level s.square.number) c.trial.figures d.trial.figures
        → Handles film drawing amount c s d
    handles_sunk st z few tr = record { es = []; queues = queues_none c d st e p; handled = sunk z i few tr }

  pub handles_opened : (c d : Comparison A B M) (s : Suspect) → Improves c.trial.figures s.key (first_code s.square) → 1 ≤ s.square.level
      → 4 ≤ room c.suspects - length (waiting c.suspects) → Opened film drawing amount c (s.square.level - 1) s.square.number 4 d
      → Handles film drawing amount c s d
  handles_opened c d s i z many o = record {
    es = o.es;
    queues = o.queues;
    handled = subst (Handled (world film drawing amount c) s (room c.suspects - length (waiting c.suspects)) c.trial.figures o.es) (sym o.figures)
        (opened (s.square.level - 1) (omega arith) i many o.picked);
  }

  -- no square leaves meanwhile
  pub handles_grow : (c d : Comparison A B M) (s : Suspect) → Handles film drawing amount c s d → length (waiting c.suspects) ≤ length (waiting d.suspects)
  handles_grow c d s h = omega (arith, length_permutation (waiting d.suspects) (h.es ++ waiting c.suspects) h.queues.waits, length-append h.es (waiting c.suspects))

  -- the board is the only square that waits
  pub started : (c d : Comparison A B M) (u t : Ground A B M) (v : WaitingList Suspect) (b : Bool) (a : ℕ) (e : Suspect)
      → Stays film drawing amount c.trial.ground u → Stays film drawing amount u t → over film drawing amount 0 d.trial.ground ≡ over film drawing amount 0 t
      → KeyedAt (world film drawing amount c) 0 a d.trial.figures.low d.trial.figures.drawing → d.trial.figures.film ≡ a → Right (over film drawing amount (room c.suspects) u) e → e.square ≡ record { level = 16; number = 0 }
      → waiting v ≡ [] → room v ≡ room c.suspects → Added before v e b d.suspects → room d.suspects ≡ room v → 0 < room c.suspects
      → (state d).begun ≡ true → (state d).queued ≡ 1 → (state d).taken ≡ 0
      → Started film drawing amount c a d
  started c d u t v b a e s s' same key witness right whole empty places add places' some x y z = record {
    same_world =
        ap (λ n. over film drawing amount n d.trial.ground) (places' ∙ places)
        ∙ over_any (room c.suspects) t d.trial.ground same
        ∙ over_places (room c.suspects) u t s' ∙ over_places (room c.suspects) c.trial.ground u s;
    witness = witness;
    partner = key;
    begun = x;
    queued = y;
    taken = z;
    board = e;
    waits = shuffled_one e (waiting d.suspects) (subst (λ xs. IsPermutation (e ∷ xs) (waiting d.suspects)) empty (added_here v e b d.suspects (omega (arith, ap length empty)) add).1);
    whole = whole;
    right = subst (λ q. Right q e) (over_places (room c.suspects) c.trial.ground u s) right;
  }

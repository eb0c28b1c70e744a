-- What a step does with the square that it took, in the words of the invariant.
use Rattle.std.proofs.Common.{◌≡◌, ℕ, zero, suc, ◌+◌, ◌*◌, ◌/◌, ◌%◌, ◌^◌, ◌<◌, ◌≤◌, min, ◌⊎◌, List, length, sum_by, sym, refl, ap, ◌∙◌, subst, inl, inr, le_trans, pow-suc, mul-one, add-one, arith}
use Rattle.std.specs.List.{AllByRecursion}
use Rattle.std.proofs.lemmas.Bool.{cases_lt}
use Rattle.std.proofs.lemmas.List.Sums.{sum_by-cons}
use Rattle.store.specs.declared.store.Answer.{Answer}
use Rattle.store.specs.declared.store.Answer.TheVariants.{Empty, Occupied, Unknown}
use Rattle.board.specs.Squares.{Inside}
use Rattle.comparison.specs.declared.record.Figures.{Figures}
use Rattle.comparison.specs.declared.suspect.Suspect.{Suspect}
use Rattle.board.specs.SquareOrder.{first_code}
use Rattle.comparison.specs.World.{World, Facts, InFilm, NearestTo, KeyedAt, dist, squares_in, unless_empty, sum_to}
use Rattle.comparison.specs.Calls.{Improves, Right, Tried, Picked, Handled, part}
use Rattle.comparison.specs.Calls.Picked.{none, pick, pass_empty, pass}
use Rattle.comparison.specs.Calls.Handled.{dropped, settled, opened, sunk}
use Rattle.comparison.proofs.Keying.{in_quarter, at_cell, first_cell, key_bounds, quarter_key, cell_key, nearest_keyed, not_empty, cell_held, film_code, last}

-- a cell or square c with the amount k does not improve the figures
abbrev pub Settled : Figures → ℕ → ℕ → Type 0
Settled f k c = (k ≤ f.low) × (k ≡ f.low → f.film ≤ c)

-- the cell c is not in the square of s
abbrev pub Outside : ℕ → Suspect → Type 0
Outside c s = c / 4 ^ s.square.level ≡ s.square.number → ⊥

pub settled_from : (f : Figures) (k c : ℕ) → (Improves f k c → ⊥) → Settled f k c
settled_from f k c h = (le (cases_lt f.low k), λ e. at e (cases_lt c f.film))
  where
    le : (f.low < k) ⊎ (k ≤ f.low) → k ≤ f.low
    le (inl lt) = absurd (h (inl lt))
    le (inr g) = g

    at : k ≡ f.low → (c < f.film) ⊎ (f.film ≤ c) → f.film ≤ c
    at e (inl lt) = absurd (h (inr (e, lt)))
    at e (inr g) = g

-- what is settled at an amount and a cell is settled at less, and at a later cell
pub settled_less : (f : Figures) (k c k' c' : ℕ) → Settled f k c → k' ≤ k → c ≤ c' → Settled f k' c'
settled_less f k c k' c' s h g = (omega arith, λ e. omega arith)

module _ (w : World) where
  abbrev pub size : Suspect → ℕ
  size s = squares_in w s.square.level s.square.number

  counts_one : (a : Answer) → (a ≡ Empty → ⊥) → unless_empty a ≡ 1
  counts_one Empty h = absurd (h refl)
  counts_one Occupied h = refl
  counts_one Unknown h = refl

  counts_most : (a : Answer) → unless_empty a ≤ 1
  counts_most Empty = omega arith
  counts_most Occupied = omega arith
  counts_most Unknown = omega arith

  pub size_pos : (l n : ℕ) → (w.film l n ≡ Empty → ⊥) → 1 ≤ squares_in w l n
  unfolding squares_in
  size_pos zero n h = let e = counts_one (w.film 0 n) h in omega arith
  size_pos (suc l) n h = let e = counts_one (w.film (suc l) n) h in omega arith

  pub size_quarters : (l n : ℕ) → (w.film (l + 1) n ≡ Empty → ⊥) → 1 + sum_to (λ k. squares_in w l (4 * n + k)) 4 ≤ squares_in w (l + 1) n
  unfolding squares_in
  size_quarters l n h =
      let e = counts_one (w.film (suc l) n) (λ z. h (rw add-one z)) in
      rw (add-one l) (omega arith)

  -- no square has more squares in it than a full tree
  pub size_most : (l n : ℕ) → 3 * squares_in w l n + 1 ≤ 4 ^ suc l
  unfolding squares_in
  size_most zero n = let e = counts_most (w.film 0 n) in omega arith
  size_most (suc l) n =
      rw (pow-suc 4 (suc l)) (go (w.film (suc l) n) (λ k. squares_in w l (4 * n + k)) (λ k. size_most l (4 * n + k)))
    where
      go : (a : Answer) (m : ℕ → ℕ) → ((k : ℕ) → 3 * m k + 1 ≤ 4 ^ suc l) → 3 * (unless_empty a + sum_to m 4) + 1 ≤ 4 ^ suc l * 4
      go a m h = let e = counts_most a in omega (arith, h 0, h 1, h 2, h 3)

  -- of k quarters no more than k are queued
  pub picked_length : (f : Figures) (l n : ℕ) {k : ℕ} {es : List Suspect} → Picked w f l n k es → length es ≤ k
  picked_length f l n none = omega arith
  picked_length f l n (pick e p x a r i) = let h = picked_length f l n p in omega arith
  picked_length f l n (pass_empty p x) = let h = picked_length f l n p in omega arith
  picked_length f l n (pass key q p x i) = let h = picked_length f l n p in omega arith

module _ (w : World) (fs : Facts w) where
  -- an entry of the waiting list
  abbrev pub Entry : Suspect → Type 0
  Entry s = Right w s × (w.film s.square.level s.square.number ≡ Empty → ⊥) × (s.square.level ≤ 16)

  -- the figures are those of a pair of cells
  abbrev pub Shown : Figures → Type 0
  Shown f = InFilm w f.film × NearestTo w f.film f.drawing × (f.low ≡ dist w f.film f.drawing)

  -- no cell of an entry improves what the entry does not
  pub entry_settles : (f : Figures) (s : Suspect) (c e : ℕ) → Entry s → Settled f s.key (first_code s.square) → InFilm w c → c / 4 ^ s.square.level ≡ s.square.number → NearestTo w c e → Settled f (dist w c e) c
  entry_settles f s c e r h o i near =
      settled_less f s.key (first_code s.square) (dist w c e) c h
      (key_bounds w fs s.square.level s.square.number s.key s.partner c e (film_code w fs c o) r.0 i near)
      (first_cell s.square.level s.square.number c r.2 i)

  module _ (f : Figures) (l n : ℕ) (board : l < 16) where
    -- an entry for a part, by level and number
    entry_of : (e : Suspect) (k : ℕ) → e.square ≡ part l n k → (w.film l (4 * n + k) ≡ Empty → ⊥) → Right w e → Entry e
    entry_of e k a x r =
        let lev : e.square.level ≡ l = ap (λ s. s.level) a in
        let num : e.square.number ≡ 4 * n + k = ap (λ s. s.number) a in
        (r, (λ z. x (sym (ap (λ s. w.film s.level s.number) a) ∙ z)), omega arith)

    pub picked_entries : {k : ℕ} {es : List Suspect} → Picked w f l n k es → AllByRecursion Entry es
    picked_entries none = tt
    picked_entries (pick {k = k} e p x a r i) = (entry_of e k a x r, picked_entries p)
    picked_entries (pass_empty p x) = picked_entries p
    picked_entries (pass key q p x i) = picked_entries p

    pub picked_keys : (most part : ℕ) → KeyedAt w (l + 1) n most part → {k : ℕ} {es : List Suspect} → Picked w f l n k es → k ≤ 4 → AllByRecursion (λ s. s.key ≤ most) es
    picked_keys m q r none h = tt
    picked_keys m q r (pick {k = k} e p x a t i) h =
        (quarter_key w fs l n k m q e.key e.partner h r (subst (λ s. KeyedAt w s.level s.number e.key e.partner) a t), picked_keys m q r p (omega arith))
    picked_keys m q r (pass_empty p x) h = picked_keys m q r p (omega arith)
    picked_keys m q r (pass key t p x i) h = picked_keys m q r p (omega arith)

    pub picked_size : {k : ℕ} {es : List Suspect} → Picked w f l n k es → sum_by (size w) es ≤ sum_to (λ k. squares_in w l (4 * n + k)) k
    picked_size none = omega arith
    picked_size (pick {k = k} {es = es} e p x a r i) =
        let h = picked_size p in
        let s : size w e ≡ squares_in w l (4 * n + k) = ap (λ s. squares_in w s.level s.number) a in
        omega (arith, sum_by-cons (size w) e es)
    picked_size (pass_empty p x) = let h = picked_size p in omega arith
    picked_size (pass key q p x i) = let h = picked_size p in omega arith

    pub picked_covers : (c e : ℕ) → InFilm w c → NearestTo w c e → {k : ℕ} {es : List Suspect} → Picked w f l n k es → AllByRecursion (Outside c) es → (r : ℕ) → r < k → c / 4 ^ l ≡ 4 * n + r → Settled f (dist w c e) c
    picked_covers c e o near none h r lt q = absurd (omega arith)
    picked_covers c e o near (pick {k = k} s p x a t i) h r lt q =
        last k r lt (λ m. picked_covers c e o near p h.1 r m q)
        (λ m. absurd (h.0 (subst (λ s. c / 4 ^ s.level ≡ s.number) (sym a) (q ∙ ap (λ z. 4 * n + z) m))))
    picked_covers c e o near (pass_empty {k = k} p x) h r lt q =
        last k r lt (λ m. picked_covers c e o near p h r m q) (λ m. absurd (not_empty w fs l (4 * n + k) c (omega arith) o (q ∙ ap (λ z. 4 * n + z) m) x))
    picked_covers c e o near (pass {k = k} key t p x i) h r lt q =
        last k r lt (λ m. picked_covers c e o near p h r m q)
        (λ m. let z : c / 4 ^ l ≡ 4 * n + k = q ∙ ap (λ z. 4 * n + z) m in
        settled_less f key (first_code (part l n k)) (dist w c e) c (settled_from f key (first_code (part l n k)) i)
        (key_bounds w fs l (4 * n + k) key t c e (film_code w fs c o) x z near) (first_cell l (4 * n + k) c (omega arith) z))

  -- the figures that a trial leaves
  module _ (P : ℕ → Type 0) (f g : Figures) (t : Tried w P f g) where
    abbrev Source : Type 0
    Source = (g ≡ f) ⊎ (P g.film × InFilm w g.film × KeyedAt w 0 g.film g.low g.drawing × Improves f g.low g.film)

    pub tried_better : (k c : ℕ) → Settled f k c → Settled g k c
    tried_better k c h = go t.source
      where
        go : Source → Settled g k c
        go (inl e) = subst (λ x. Settled x k c) (sym e) h
        go (inr s) = let i = s.3 in (omega arith, λ e. omega arith)

    pub tried_low : f.low ≤ g.low
    tried_low = go t.source
      where
        go : Source → f.low ≤ g.low
        go (inl e) = subst (λ x. f.low ≤ x.low) (sym e) (omega arith)
        go (inr s) = let i = s.3 in omega arith

    pub tried_shown : Shown f → Shown g
    tried_shown h = go t.source
      where
        go : Source → Shown g
        go (inl e) = subst Shown (sym e) h
        go (inr s) = let k = cell_key w fs g.film g.low g.drawing f.drawing (film_code w fs g.film s.1) s.2 h.1.held in (s.1, k.0, k.1)

    pub tried_settles : (c e : ℕ) → P c → InFilm w c → NearestTo w c e → Settled g (dist w c e) c
    tried_settles c e q o near = settled_from g (dist w c e) c (t.best c (dist w c e) e q o (nearest_keyed w fs c e (film_code w fs c o) near))

    pub tried_bound : (most : ℕ) → Shown f → f.low ≤ most → ((c e : ℕ) → P c → InFilm w c → NearestTo w c e → dist w c e ≤ most) → g.low ≤ most
    tried_bound most sh h b = go t.source
      where
        go : Source → g.low ≤ most
        go (inl e) = subst (λ x. x.low ≤ most) (sym e) h
        go (inr s) =
            let k = cell_key w fs g.film g.low g.drawing f.drawing (film_code w fs g.film s.1) s.2 sh.1.held in
            let q = b g.film g.drawing s.0 s.1 k.0 in omega (arith, k.1)

  module _ (s : Suspect) (free : ℕ) (f : Figures) where
    abbrev In : ℕ → Type 0
    In c = Inside s.square.level s.square.number c

    code_at_cell : s.square.level ≡ 0 → first_code s.square ≡ s.square.number
    code_at_cell z = ap (λ l. s.square.number * 4 ^ min l 16) z ∙ mul-one s.square.number

    pub better : {es : List Suspect} {g : Figures} → Handled w s free f es g → (k c : ℕ) → Settled f k c → Settled g k c
    better (dropped n) k c h = h
    better (settled z i) k c h = let q = code_at_cell z in (omega arith, λ e. omega arith)
    better (opened l z i room p) k c h = h
    better (sunk {g = g} z i room t) k c h = tried_better In f g t k c h

    pub covers : {es : List Suspect} {g : Figures} → Handled w s free f es g → Entry s → (c e : ℕ) → InFilm w c → NearestTo w c e → AllByRecursion (Outside c) es → c / 4 ^ s.square.level ≡ s.square.number → Settled g (dist w c e) c
    covers (dropped n) en c e o near out q = entry_settles f s c e en (settled_from f s.key (first_code s.square) n) o q near
    covers (settled z i) en c e o near out q =
        let h = key_bounds w fs s.square.level s.square.number s.key s.partner c e (film_code w fs c o) en.0 q near in
        let g = at_cell c s.square.number (subst (λ l. c / 4 ^ l ≡ s.square.number) z q) in
        (omega arith, λ e. omega arith)
    covers (opened l z i room p) en c e o near out q =
        let i : c / 4 ^ suc l ≡ s.square.number = subst (λ x. c / 4 ^ x ≡ s.square.number) (z ∙ add-one l) q in
        picked_covers f l s.square.number (omega (arith, en.2)) c e o near p out ((c / 4 ^ l) % 4) (omega arith) (in_quarter c l s.square.number i)
    covers (sunk {g = g} z i room t) en c e o near out q = tried_settles In f g t c e q o near

    pub entries : {es : List Suspect} {g : Figures} → Handled w s free f es g → Entry s → AllByRecursion Entry es
    entries (dropped n) en = tt
    entries (settled z i) en = tt
    entries (opened l z i room p) en = picked_entries f l s.square.number (omega (arith, en.2)) p
    entries (sunk z i room t) en = tt

    pub keys : {es : List Suspect} {g : Figures} → Handled w s free f es g → Entry s → AllByRecursion (λ e. e.key ≤ s.key) es
    keys (dropped n) en = tt
    keys (settled z i) en = tt
    keys (opened l z i room p) en =
        picked_keys f l s.square.number (omega (arith, en.2)) s.key s.partner (subst (λ x. KeyedAt w x s.square.number s.key s.partner) z en.0) p (omega arith)
    keys (sunk z i room t) en = tt

    pub smaller : {es : List Suspect} {g : Figures} → Handled w s free f es g → Entry s → 1 + sum_by (size w) es ≤ size w s
    smaller (dropped n) en = size_pos w s.square.level s.square.number en.1
    smaller (settled z i) en = size_pos w s.square.level s.square.number en.1
    smaller (opened l z i room p) en =
        let e : size w s ≡ squares_in w (l + 1) s.square.number = ap (λ x. squares_in w x s.square.number) z in
        let h = size_quarters w l s.square.number (subst (λ x. w.film x s.square.number ≡ Empty → ⊥) z en.1) in
        let g = picked_size f l s.square.number (omega (arith, en.2)) p in
        omega arith
    smaller (sunk z i room t) en = size_pos w s.square.level s.square.number en.1

    pub in_room : {es : List Suspect} {g : Figures} → Handled w s free f es g → Entry s → length es ≤ free
    in_room (dropped n) en = omega arith
    in_room (settled z i) en = omega arith
    in_room (opened l z i room p) en = let h = picked_length w f l s.square.number p in omega arith
    in_room (sunk z i room t) en = omega arith

    pub shown : {es : List Suspect} {g : Figures} → Handled w s free f es g → Entry s → Shown f → Shown g
    shown (dropped n) en h = h
    shown (settled z i) en h =
        let o = cell_held w fs s.square.number (subst (λ l. w.film l s.square.number ≡ Empty → ⊥) z en.1) in
        let k = cell_key w fs s.square.number s.key s.partner f.drawing (film_code w fs s.square.number o) (subst (λ l. KeyedAt w l s.square.number s.key s.partner) z en.0) h.1.held in
        (o, k.0, k.1)
    shown (opened l z i room p) en h = h
    shown (sunk {g = g} z i room t) en h = tried_shown In f g t h

    pub low_rises : {es : List Suspect} {g : Figures} → Handled w s free f es g → f.low ≤ g.low
    low_rises (dropped n) = omega arith
    low_rises (settled z i) = omega arith
    low_rises (opened l z i room p) = omega arith
    low_rises (sunk {g = g} z i room t) = tried_low In f g t

    pub low_bound : {es : List Suspect} {g : Figures} → Handled w s free f es g → Entry s → Shown f → (most : ℕ) → f.low ≤ most → s.key ≤ most → g.low ≤ most
    low_bound (dropped n) en sh m h k = h
    low_bound (settled z i) en sh m h k = k
    low_bound (opened l z i room p) en sh m h k = h
    low_bound (sunk {g = g} z i room t) en sh m h k =
        tried_bound In f g t m sh h (λ c e q o near. le_trans (key_bounds w fs s.square.level s.square.number s.key s.partner c e (film_code w fs c o) en.0 q near) k)

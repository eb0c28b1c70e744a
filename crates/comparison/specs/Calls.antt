-- The calls of a comparison: what each answers, and what it leaves.
use Rattle.std.specs.Prelude.{◌≡◌, ℕ, suc, ◌+◌, ◌-◌, ◌*◌, ◌^◌, ◌<◌, ◌≤◌, min, max, Bool, true, false, ◌⊎◌, List, [], ◌∷◌, ◌++◌, length, ◌≢◌}
use Rattle.std.specs.List.Sorted.{IsPermutation}
use Rattle.board.specs.Findings.{code_of}
use Rattle.board.specs.Limits.{top, parts}
use Rattle.board.specs.Squares.{Inside}
use Rattle.board.specs.declared.square.Square.{Square}
use Rattle.search.specs.Firsts.{NoneHeld, FirstHeld}
use Rattle.search.specs.WaitingLists.{FirstIn}
use Rattle.store.specs.declared.store.Answer.TheVariants.{Empty}
use Rattle.comparison.specs.declared.call.Call.{Call}
use Rattle.comparison.specs.declared.call.Call.TheVariants.{Begin, Step, Probe, Look, Result}
use Rattle.comparison.specs.declared.call.Outcome.{Outcome}
use Rattle.comparison.specs.declared.call.Outcome.TheVariants.{Begun, Stepped, Probed, Looked, Answered, Refused}
use Rattle.comparison.specs.declared.record.Figures.{Figures}
use Rattle.comparison.specs.declared.suspect.Suspect.{Suspect}
use Rattle.comparison.specs.Faults.{fault_numbered}
use Rattle.board.specs.SquareOrder.{first_code}
use Rattle.comparison.specs.Suspects.{before}
use Rattle.comparison.specs.World.{World, InFilm, InDrawing, KeyedAt}

-- what a comparison has come to: whether it was begun, the figures, both counts, and what waits
pub record State : Type 0 where
  pub begun : Bool
  pub figures : Figures
  pub queued : ℕ
  pub taken : ℕ
  pub waiting : List Suspect

-- a comparison that was never begun
abbrev pub fresh : State
fresh = record { begun = false; figures = record { low = 0; film = 0; drawing = 0 }; queued = 0; taken = 0; waiting = [] }

-- what a call says, with the codes of cells, and the number and the place of a refusal
pub data Said : Type 0 where
  begun : Said
  stepped : Said
  probed : Said
  looked : (low high film drawing queued taken waiting : ℕ) → Said
  answered : (distance film drawing : ℕ) → Said
  refused : (number place : ℕ) → Said

abbrev pub said : Outcome → Said
said Begun = begun
said Stepped = stepped
said Probed = probed
said (Looked s) = looked s.low s.high (code_of s.film) (code_of s.drawing) s.queued s.taken s.waiting
said (Answered f) = answered f.distance (code_of f.film) (code_of f.drawing)
said (Refused f) = refused (fault_numbered f).0 (fault_numbered f).1

-- a square with this key and first code improves the figures
abbrev pub Improves : Figures → ℕ → ℕ → Type 0
Improves f k c = (f.low < k) ⊎ ((k ≡ f.low) × (c < f.film))

abbrev pub greatest_key : List Suspect → ℕ
greatest_key [] = 0
greatest_key (s ∷ ss) = max s.key (greatest_key ss)

-- the greater of low and the greatest key that waits
abbrev pub high : State → ℕ
high st = max st.figures.low (greatest_key st.waiting)

-- counts stop here
abbrev pub count_limit : ℕ
count_limit = 2 ^ 40

abbrev pub counted : ℕ → ℕ → ℕ
counted n k = min count_limit (n + k)

-- the part k of the square n of level l + 1
abbrev pub part : ℕ → ℕ → ℕ → Square
part l n k = record { level = l; number = parts * n + k }

module _ (w : World) where
  -- the entry has the key and the partner of its square
  abbrev pub Right : Suspect → Type 0
  Right e = KeyedAt w e.square.level e.square.number e.key e.partner

  -- the figures g are f, or those of a cell of the film in P that improves f
  abbrev pub Source : (ℕ → Type 0) → Figures → Figures → Type 0
  Source P f g = (g ≡ f) ⊎ (P g.film × InFilm w g.film × KeyedAt w 0 g.film g.low g.drawing × Improves f g.low g.film)

  -- the figures g are the best of f and of the cells of the film in P: no such cell improves g
  pub record Tried (P : ℕ → Type 0) (f g : Figures) : Type 0 where
    pub source : Source P f g
    pub best : (c k p : ℕ) → P c → InFilm w c → KeyedAt w 0 c k p → Improves g k c → ⊥

  -- es are those of the first k quarters of the square n, of level l + 1, that the film does not call empty and that improve, the last first
  pub data Picked (f : Figures) (l n : ℕ) : ℕ → List Suspect → Type 0 where
    none : Picked f l n 0 []
    pick : {k : ℕ} {es : List Suspect} (e : Suspect) → Picked f l n k es → (w.film l (parts * n + k) ≢ Empty) → e.square ≡ part l n k → Right e → Improves f e.key (first_code e.square) → Picked f l n (suc k) (e ∷ es)
    pass_empty : {k : ℕ} {es : List Suspect} → Picked f l n k es → w.film l (parts * n + k) ≡ Empty → Picked f l n (suc k) es
    pass : {k : ℕ} {es : List Suspect} (key p : ℕ) → Picked f l n k es → KeyedAt w l (parts * n + k) key p → (Improves f key (first_code (part l n k)) → ⊥) → Picked f l n (suc k) es

  -- what a step does with the suspect s that it took, with so many places free: the squares that it queues, and the figures
  pub data Handled (s : Suspect) (free : ℕ) (f : Figures) : List Suspect → Figures → Type 0 where
    dropped : (Improves f s.key (first_code s.square) → ⊥) → Handled s free f [] f
    settled : s.square.level ≡ 0 → Improves f s.key (first_code s.square) → Handled s free f [] (record { low = s.key; film = s.square.number; drawing = s.partner })
    opened : {es : List Suspect} (l : ℕ) → s.square.level ≡ l + 1 → Improves f s.key (first_code s.square) → parts ≤ free
        → Picked f l s.square.number parts es → Handled s free f es f
    sunk : {g : Figures} → 0 < s.square.level → Improves f s.key (first_code s.square) → free < parts
        → Tried (Inside s.square.level s.square.number) f g → Handled s free f [] g

  -- a step: it takes the first in order, handles it, and counts
  pub record Advanced (st st' : State) : Type 0 where
    pub taken_one : Suspect
    pub queued_now : List Suspect
    pub rest : List Suspect
    pub split : IsPermutation st.waiting (taken_one ∷ rest)
    pub was_first : FirstIn before taken_one rest
    pub handled : Handled taken_one (w.suspects - length rest) st.figures queued_now st'.figures
    pub waiting : IsPermutation st'.waiting (queued_now ++ rest)
    pub begun : st'.begun ≡ true
    pub queued : st'.queued ≡ counted st.queued (length queued_now)
    pub taken : st'.taken ≡ counted st.taken 1

  -- a begin: the first cell of the film with its key and partner, and the board on the list
  pub record Opening (st' : State) : Type 0 where
    pub first : FirstHeld w.film st'.figures.film
    pub partner : KeyedAt w 0 st'.figures.film st'.figures.low st'.figures.drawing
    pub begun : st'.begun ≡ true
    pub queued : st'.queued ≡ 1
    pub taken : st'.taken ≡ 0
    pub board : Suspect
    pub waiting : st'.waiting ≡ board ∷ []
    pub whole : board.square ≡ record { level = top; number = 0 }
    pub right : Right board

  pub data Begins (st : State) : Said → State → Type 0 where
    begins : {st' : State} (e : ℕ) → 0 < w.suspects → 0 < w.neighbours → InDrawing w e → Opening st' → Begins st begun st'
    no_suspects : w.suspects ≡ 0 → Begins st (refused 13 0) st
    no_neighbours : 0 < w.suspects → w.neighbours ≡ 0 → Begins st (refused 13 1) st
    no_film : 0 < w.suspects → 0 < w.neighbours → NoneHeld w.film → Begins st (refused 11 0) st
    no_drawing : (c : ℕ) → 0 < w.suspects → 0 < w.neighbours → InFilm w c → NoneHeld w.drawing → Begins st (refused 12 0) st

  pub data Steps (st : State) : Said → State → Type 0 where
    steps : {st' : State} → st.begun ≡ true → Advanced st st' → Steps st stepped st'
    step_early : st.begun ≡ false → Steps st (refused 16 0) st
    step_late : st.begun ≡ true → st.waiting ≡ [] → Steps st (refused 16 0) st

  pub data Probes (st : State) (c : ℕ) : Said → State → Type 0 where
    probes : {g : Figures} → st.begun ≡ true → InFilm w c → Tried (λ x. x ≡ c) st.figures g
        → Probes st c probed (record { begun = true; figures = g; queued = st.queued; taken = st.taken; waiting = st.waiting })
    not_held : (InFilm w c → ⊥) → Probes st c (refused 15 0) st
    probe_early : InFilm w c → st.begun ≡ false → Probes st c (refused 16 0) st

  pub data Looks (st : State) : Said → State → Type 0 where
    looks : st.begun ≡ true → Looks st (looked st.figures.low (high st) st.figures.film st.figures.drawing st.queued st.taken (length st.waiting)) st
    look_early : st.begun ≡ false → Looks st (refused 16 0) st

  pub data Results (st : State) : Said → State → Type 0 where
    results : st.begun ≡ true → st.waiting ≡ [] → Results st (answered st.figures.low st.figures.film st.figures.drawing) st
    result_early : st.begun ≡ false → Results st (refused 16 0) st
    result_waits : st.begun ≡ true → 0 < length st.waiting → Results st (refused 17 (length st.waiting)) st

  -- one call: what it says, and the state that it leaves
  abbrev pub Does : State → Call → Said → State → Type 0
  Does st Begin o st' = Begins st o st'
  Does st Step o st' = Steps st o st'
  Does st (Probe c) o st' = Probes st (code_of c) o st'
  Does st Look o st' = Looks st o st'
  Does st Result o st' = Results st o st'

  -- a list of calls, from one state to another, with what each said
  pub data Run : State → List Call → List Said → State → Type 0 where
    stop : {st : State} → Run st [] [] st
    next : {st st' st'' : State} {c : Call} {o : Said} {cs : List Call} {os : List Said} → Does st c o st' → Run st' cs os st'' → Run st (c ∷ cs) (o ∷ os) st''

-- A round: the codes of two slices, the one after the other, taken from the front or from the back.
use Rattle.std.proofs.Common.{◌≡◌, ℕ, Bool, true, false, cond, List, [], ◌∷◌, ◌++◌, length, not, Some, None, Option, MatchOption, sym, refl, ◌∙◌, inl, inr, ◌⊎◌, ⊎_elim, append_assoc, append-nil, arith}
use Rattle.std.specs.Prelude.{MatchBool}
use Rattle.std.specs.List.{Contains}
use Rattle.std.specs.Iterator.Adapters.{chain_first, chain_second, chain_first_done, chain_second_done, chain_steps, chain_steps_back}
use Rattle.std.specs.Slice.Iter.{iter_rest, iter_steps, iter_steps_back}
use Rattle.std.specs.declared.slice.Iter.{Iter}
use Rattle.std.proofs.lemmas.List.Elements.{Contains-append_left, Contains-append_right, Contains-append_cases, Contains-push, Contains-push_cases}
use Rattle.std.proofs.lemmas.List.{get_or_default}
use Rattle.std.proofs.lemmas.Bool.{false≢true}
use Rattle.board.specs.Lists.{Has}
use Rattle.scan.specs.Rounds.{to_come, meets}
use Rattle.scan.specs.declared.round.Round.{Round}
use denote.Ref.{Bor}

none_left : (xs : List ℕ) → length xs ≡ 0 → xs ≡ []
none_left [] h = refl
none_left (x ∷ xs) h = absurd (omega arith)

contains : (cs : List ℕ) (q : ℕ) → Has cs q → Contains cs q
contains cs q h = (h.0, h.1, get_or_default cs h.0 q 0 h.1 ∙ h.2)

has : (cs : List ℕ) (q : ℕ) → Contains cs q → Has cs q
has cs q h = (h.0, h.1, get_or_default cs h.0 0 q h.1 ∙ h.2)

-- one side answers from the front, where z says that it has ended
front_of_one : (z w : Bool) (s t : Iter ℕ) (r : Option (Bor ℕ)) → w ≡ z → MatchBool z (r ≡ None) (iter_steps s r t)
    → MatchOption r (cond z [] (iter_rest s) ≡ []) (λ x. cond z [] (iter_rest s) ≡ x.now ∷ cond w [] (iter_rest t))
front_of_one true w s t None e h = refl
front_of_one true w s t (Some x) e h = cc
front_of_one false w s t None e h = none_left (iter_rest s) h.0
front_of_one false w s t (Some x) e h = rw e h

back_of_one : (z w : Bool) (s t : Iter ℕ) (r : Option (Bor ℕ)) → w ≡ z → MatchBool z (r ≡ None) (iter_steps_back s r t)
    → MatchOption r (cond z [] (iter_rest s) ≡ []) (λ x. cond z [] (iter_rest s) ≡ cond w [] (iter_rest t) ++ x.now ∷ [])
back_of_one true w s t None e h = refl
back_of_one true w s t (Some x) e h = cc
back_of_one false w s t None e h = none_left (iter_rest s) h.0
back_of_one false w s t (Some x) e h = rw e h

-- the first list answers until it ends, and then the second: w and v say what has ended after the answer
module _ (w z v : Bool) (a a' b b' : Iter ℕ) (r : Option (Bor ℕ)) (kept : v ≡ z) where
  front_of_first : (o : Option (Bor ℕ)) → iter_steps a o a'
      → MatchOption o (MatchBool z (r ≡ None) (iter_steps b r b') × (w ≡ true)) (λ x. (r ≡ Some x) × (b' ≡ b) × (w ≡ false))
      → MatchOption r (iter_rest a ++ cond z [] (iter_rest b) ≡ []) (λ x. iter_rest a ++ cond z [] (iter_rest b) ≡ x.now ∷ (cond w [] (iter_rest a') ++ cond v [] (iter_rest b')))
  front_of_first None p h = rw (none_left (iter_rest a) p.0, h.1) (front_of_one z v b b' r kept h.0)
  front_of_first (Some x) p h = rw (h.0, h.1, h.2, kept, p) refl

  front_of_both : (y : Bool)
      → MatchBool y (MatchBool z (r ≡ None) (iter_steps b r b') × (w ≡ true))
      ((o : Option (Bor ℕ)) × iter_steps a o a' × MatchOption o (MatchBool z (r ≡ None) (iter_steps b r b') × (w ≡ true)) (λ x. (r ≡ Some x) × (b' ≡ b) × (w ≡ false)))
      → MatchOption r (cond y [] (iter_rest a) ++ cond z [] (iter_rest b) ≡ []) (λ x. cond y [] (iter_rest a) ++ cond z [] (iter_rest b) ≡ x.now ∷ (cond w [] (iter_rest a') ++ cond v [] (iter_rest b')))
  front_of_both true h = rw h.1 (front_of_one z v b b' r kept h.0)
  front_of_both false h = front_of_first h.0 h.1 h.2

from_front : (s t : Round) (r : Option (Bor ℕ)) → chain_steps iter_steps iter_steps s.codes r t.codes → MatchOption r (to_come s ≡ []) (λ x. to_come s ≡ x.now ∷ to_come t)
from_front s t r h =
    front_of_both (chain_first_done t.codes) (chain_second_done s.codes) (chain_second_done t.codes) (chain_first s.codes) (chain_first t.codes) (chain_second s.codes) (chain_second t.codes) r h.0 (chain_first_done s.codes) h.1

-- the second list answers from the back until it ends, and then the first
module _ (w y v : Bool) (a a' b b' : Iter ℕ) (r : Option (Bor ℕ)) (kept : v ≡ y) where
  back_of_second : (o : Option (Bor ℕ)) → iter_steps_back b o b'
      → MatchOption o (MatchBool y (r ≡ None) (iter_steps_back a r a') × (w ≡ true)) (λ x. (r ≡ Some x) × (a' ≡ a) × (w ≡ false))
      → MatchOption r (cond y [] (iter_rest a) ++ iter_rest b ≡ []) (λ x. cond y [] (iter_rest a) ++ iter_rest b ≡ (cond v [] (iter_rest a') ++ cond w [] (iter_rest b')) ++ x.now ∷ [])
  back_of_second None p h = rw (none_left (iter_rest b) p.0, h.1) (simp append-nil (back_of_one y v a a' r kept h.0))
  back_of_second (Some x) p h = rw (h.0, h.1, h.2, kept, p) (sym (append_assoc (cond y [] (iter_rest a)) (iter_rest b') (x.now ∷ [])))

  back_of_both : (z : Bool)
      → MatchBool z (MatchBool y (r ≡ None) (iter_steps_back a r a') × (w ≡ true))
      ((o : Option (Bor ℕ)) × iter_steps_back b o b' × MatchOption o (MatchBool y (r ≡ None) (iter_steps_back a r a') × (w ≡ true)) (λ x. (r ≡ Some x) × (a' ≡ a) × (w ≡ false)))
      → MatchOption r (cond y [] (iter_rest a) ++ cond z [] (iter_rest b) ≡ []) (λ x. cond y [] (iter_rest a) ++ cond z [] (iter_rest b) ≡ (cond v [] (iter_rest a') ++ cond w [] (iter_rest b')) ++ x.now ∷ [])
  back_of_both true h = rw h.1 (simp append-nil (back_of_one y v a a' r kept h.0))
  back_of_both false h = back_of_second h.0 h.1 h.2

from_back : (s t : Round) (r : Option (Bor ℕ)) → chain_steps_back iter_steps_back iter_steps_back s.codes r t.codes → MatchOption r (to_come s ≡ []) (λ x. to_come s ≡ to_come t ++ x.now ∷ [])
from_back s t r h =
    back_of_both (chain_second_done t.codes) (chain_first_done s.codes) (chain_first_done t.codes) (chain_first s.codes) (chain_first t.codes) (chain_second s.codes) (chain_second t.codes) r h.0 (chain_second_done s.codes) h.1

-- x is taken from the codes, and the others are left
pub record Takes (codes : List ℕ) (x : ℕ) (left : List ℕ) : Type 0 where
  pub held : Contains codes x
  pub others : (q : ℕ) → Contains codes q → Contains left q ⊎ (x ≡ q)
  pub kept : (q : ℕ) → Contains left q → Contains codes q

takes_front : (codes left : List ℕ) (x : ℕ) → codes ≡ x ∷ left → Takes codes x left
takes_front codes left x e = rw e (record {
  held = (0, omega arith, refl);
  others = λ q h. ⊎_elim (λ k. ⊎_elim (λ n. absurd (omega (arith, n.1))) (λ s. inr s) (Contains-push_cases [] x q k)) (λ k. inl k) (Contains-append_cases (x ∷ []) left q h);
  kept = λ q h. Contains-append_right (x ∷ []) left q h;
})

takes_back : (codes left : List ℕ) (x : ℕ) → codes ≡ left ++ x ∷ [] → Takes codes x left
takes_back codes left x e = rw e (record {
  held = Contains-push left x;
  others = λ q h. Contains-push_cases left x q h;
  kept = λ q h. Contains-append_left left (x ∷ []) q h;
})

-- from either end, one code is taken
taken_from : (ahead : Bool) (codes left : List ℕ) (x : ℕ) → MatchBool ahead (codes ≡ left ++ x ∷ []) (codes ≡ x ∷ left) → Takes codes x left
taken_from true codes left x e = takes_back codes left x e
taken_from false codes left x e = takes_front codes left x e

pub takes : (s t : Round) (x : Bor ℕ) → meets s (Some x) t → Takes (to_come s) x.now (to_come t)
takes s t x h = taken_from s.ahead (to_come s) (to_come t) x.now h.1

-- an answer from the front where the one before it came from the back, and the other way round
front_answer : (ahead : Bool) (s t : List ℕ) (r : Option (Bor ℕ)) → ahead ≡ false → MatchOption r (s ≡ []) (λ x. s ≡ x.now ∷ t) → MatchOption r (s ≡ []) (λ x. MatchBool ahead (s ≡ t ++ x.now ∷ []) (s ≡ x.now ∷ t))
front_answer false s t r e h = h
front_answer true s t r e h = absurd (false≢true (sym e))

back_answer : (ahead : Bool) (s t : List ℕ) (r : Option (Bor ℕ)) → ahead ≡ true → MatchOption r (s ≡ []) (λ x. s ≡ t ++ x.now ∷ []) → MatchOption r (s ≡ []) (λ x. MatchBool ahead (s ≡ t ++ x.now ∷ []) (s ≡ x.now ∷ t))
back_answer true s t r e h = h
back_answer false s t r e h = absurd (false≢true e)

pub meets_front : (s t : Round) (r : Option (Bor ℕ)) → s.ahead ≡ false → t.ahead ≡ not s.ahead → chain_steps iter_steps iter_steps s.codes r t.codes → meets s r t
meets_front s t r a e h = (e, front_answer s.ahead (to_come s) (to_come t) r a (from_front s t r h))

pub meets_back : (s t : Round) (r : Option (Bor ℕ)) → s.ahead ≡ true → t.ahead ≡ not s.ahead → chain_steps_back iter_steps_back iter_steps_back s.codes r t.codes → meets s r t
meets_back s t r a e h = (e, back_answer s.ahead (to_come s) (to_come t) r a (from_back s t r h))

-- at first all codes of the list are to come: the last part, and then the first
pub begins : (codes first last coming : List ℕ) → codes ≡ first ++ last → coming ≡ last ++ first → (q : ℕ) → (Has codes q → Contains coming q) × (Contains coming q → Has codes q)
begins codes first last coming e f q = (
  λ h.
      let k : Contains (first ++ last) q = rw e at (contains codes q h) in
      rw f (⊎_elim (λ m. Contains-append_right last first q m) (λ m. Contains-append_left last first q m) (Contains-append_cases first last q k)),
  λ h.
      let k : Contains (last ++ first) q = rw f at h in
      has codes q (rw e (⊎_elim (λ m. Contains-append_right first last q m) (λ m. Contains-append_left first last q m) (Contains-append_cases last first q k))),
)

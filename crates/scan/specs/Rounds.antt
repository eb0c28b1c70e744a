-- What a round meets: each code of a list once, from the front and from the back by turns.
use Rattle.std.specs.Prelude.{◌≡◌, ℕ, not, cond, List, [], ◌∷◌, ◌++◌, Option, MatchOption, MatchBool}
use Rattle.std.specs.Iterator.Adapters.{chain_first, chain_second, chain_first_done, chain_second_done}
use Rattle.std.specs.Slice.Iter.{iter_rest}
use Rattle.scan.specs.declared.round.Round.{Round}
use denote.Ref.{Bor}

-- the codes that are still to come
abbrev pub to_come : Round → List ℕ
to_come s =
    cond (chain_first_done s.codes) [] (iter_rest (chain_first s.codes))
    ++ cond (chain_second_done s.codes) [] (iter_rest (chain_second s.codes))

-- the next code is the last that is to come where the one before it came from the front, and else the first; none where none is to come
abbrev pub meets : Round → Option (Bor ℕ) → Round → Type 0
meets s r t =
    (t.ahead ≡ not s.ahead)
    × MatchOption r (to_come s ≡ []) (λ x. MatchBool s.ahead (to_come s ≡ to_come t ++ x.now ∷ []) (to_come s ≡ x.now ∷ to_come t))

-- Things put on a list one by one.
use Rattle.std.specs.Prelude.{ℕ, zero, suc, List, ◌∷◌}

-- f 0, .. f (k - 1) put on xs, the last on top
abbrev pub piled : {X : Type 0} → (ℕ → X) → ℕ → List X → List X
piled f zero xs = xs
piled f (suc k) xs = f k ∷ piled f k xs

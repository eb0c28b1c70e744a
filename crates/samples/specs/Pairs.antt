-- Films as cases write them: small digits in pairs.
use Rattle.std.specs.Prelude.{◌≡◌, ℕ, ◌*◌, ◌/◌, ◌⊎◌, Bool, List, [], length, take, not, ◌||◌}
use Rattle.std.specs.Char.{is_ascii_hexdigit, is_ascii_uppercase}
use Rattle.std.specs.List.{list_any}
use Rattle.hex.specs.Hex.{IsBytes, encode_lower}

-- the signs of a text that stand in pairs: one that is left alone at its end is not among them
abbrev pub in_pairs : List ℕ → List ℕ
in_pairs text = take (length text / 2 * 2) text

-- no small digit
abbrev pub other : ℕ → Bool
other c = is_ascii_uppercase c || not (is_ascii_hexdigit c)

-- whether another sign than a small digit stands in a pair
abbrev pub stray : List ℕ → Bool
stray text = list_any other (in_pairs text)

-- the text writes the film: its pairs are the film's bytes in small digits
abbrev pub Writes : List ℕ → List ℕ → Type 0
Writes text film = IsBytes film × (encode_lower film ≡ in_pairs text)

-- the film that the text writes, and no byte where it writes none
abbrev pub WrittenFilm : List ℕ → List ℕ → Type 0
WrittenFilm text film = Writes text film ⊎ ((film ≡ []) × ((bytes : List ℕ) → Writes text bytes → ⊥))

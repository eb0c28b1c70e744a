use Rattle.std.proofs.Common.{◌≡◌, [], Result, Ok, Err, IfOk, MatchResult, subst}
use Rattle.hex.specs.Hex.{decode_of}
use Rattle.samples.proofs.Spelling.{decoded_film, no_film}
use Rattle.samples.proofs.films.read_film.Goals as goal

if_ok : {A E : Type 0} {P Q : A → Type 0} (r : Result A E) → ((x : A) → P x → Q x) → IfOk r P → IfOk r Q
if_ok (Ok x) f p = f x p
if_ok (Err e) f p = p

pub returns-in-Some : goal.returns-in-Some
returns-in-Some c =
    let text = c.args.text.now in
    let e = c.in-Some.ensures.digits_or_none in
    record {
      film_that_is_written =
          if_ok c.film_of.result
          (λ film m. decoded_film text film.items e.0 (subst (λ p. MatchResult (decode_of p) (λ bytes. film.items ≡ bytes) (λ _. film.items ≡ [])) e.1 m))
          c.film_of.ensures.bytes_or_none;
    }

pub returns-in-None : goal.returns-in-None
returns-in-None c = record { film_that_is_written = no_film c.args.text.now c.new.result.items c.in-None.ensures.digits_or_none c.new.ensures.items }

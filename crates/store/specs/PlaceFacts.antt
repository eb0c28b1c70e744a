-- What places say, for any set of cells.
use Rattle.std.specs.Prelude.{◌≡◌, ℕ, ◌*◌, ◌^◌, ◌≢◌, refl}
use Rattle.std.proofs.lemmas.Bool.{false≢true}
use Rattle.board.specs.Limits.{parts}
use Rattle.board.specs.Squares.{OnBoard, Inside}
use Rattle.board.proofs.Boards.{first_inside}
use Rattle.store.specs.declared.rectangle.Place.{Place}
use Rattle.store.specs.declared.rectangle.Place.TheVariants.{Apart, Across, Within}
use Rattle.store.specs.declared.store.Answer.TheVariants.{Unknown}
use Rattle.store.specs.Stores.{Counts}
use Rattle.store.specs.Exact.{Shares, Exactly}
use Rattle.store.specs.Places.{Placed, filled_at}

module _ (P : ℕ → Type 0) (l n : ℕ) where
  -- a square has a cell
  some_cell : ((c : ℕ) → Inside l n c → P c) → Shares P l n
  some_cell a = (n * parts ^ l, a (n * parts ^ l) (first_inside l n), first_inside l n)

  pub apart_from : (q : Place) → Placed P l n q → (OnBoard l n × Shares P l n → ⊥) → q ≡ Apart
  apart_from Apart h f = refl
  apart_from Across h f = absurd (f (h.0, h.1))
  apart_from Within h f = absurd (f (h.0, some_cell h.1))

  pub across_from : (q : Place) → Placed P l n q → OnBoard l n → Shares P l n → Shares (λ c. P c → ⊥) l n → q ≡ Across
  across_from Apart h b s o = absurd (h (b, s))
  across_from Across h b s o = refl
  across_from Within h b s o = absurd (o.1 (h.1 o.0 o.2))

  pub within_from : (q : Place) → Placed P l n q → OnBoard l n → ((c : ℕ) → Inside l n c → P c) → q ≡ Within
  within_from Apart h b a = absurd (h (b, some_cell a))
  within_from Across h b a = absurd (h.2.1 (a h.2.0 h.2.2))
  within_from Within h b a = refl

  shared_at : (q : Place) → Placed P l n q → OnBoard l n → Shares P l n → Counts (filled_at q)
  shared_at Apart h b s = absurd (h (b, s))
  shared_at Across h b s = refl
  shared_at Within h b s = refl

  shown_at : (q : Place) → Placed P l n q → Counts (filled_at q) → OnBoard l n × Shares P l n
  shown_at Apart h y = absurd (false≢true y)
  shown_at Across h y = (h.0, h.1)
  shown_at Within h y = (h.0, some_cell h.1)

sure_at : (q : Place) → filled_at q ≢ Unknown
sure_at Apart e = cc
sure_at Across e = cc
sure_at Within e = cc

-- a store that goes by places is exact
pub exactly_placed : (P : ℕ → Type 0) (p : ℕ → ℕ → Place) → ((l n : ℕ) → Placed P l n (p l n)) → Exactly P (λ l n. filled_at (p l n))
exactly_placed P p h = record {
  shared = λ l n b s. shared_at P l n (p l n) (h l n) b s;
  shown = λ l n y. shown_at P l n (p l n) (h l n) y;
  sure = λ l n z. sure_at (p l n) z;
}

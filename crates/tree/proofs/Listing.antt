-- Lists that rise, by their places and by their parts.
use Rattle.std.proofs.Common.{◌≡◌, ℕ, suc, ◌+◌, ◌^◌, ◌<◌, List, [], ◌∷◌, length, get_or, subst, arith}
use Rattle.std.specs.List.{AllByRecursion}
use Rattle.board.specs.Lists.{Rising}
use Rattle.tree.specs.Bitmaps.{Climbs}
use Rattle.tree.specs.Laws.{Listed}
use Rattle.tree.specs.declared.writer.Listing.{Listing}

pub all-places : (P : ℕ → Type 0) (cs : List ℕ) → ((k : ℕ) → k < length cs → P (get_or cs k 0)) → AllByRecursion P cs
all-places P [] f = tt
all-places P (c ∷ cs) f = (f 0 (omega arith), all-places P cs (λ k h. f (suc k) (omega arith)))

-- the part behind the first code
rest_rises : (c : ℕ) (cs : List ℕ) → Rising (c ∷ cs) (length (c ∷ cs)) → Rising cs (length cs)
rest_rises c cs r i h = let e : suc i + 1 ≡ suc (i + 1) = omega arith in subst (λ k. get_or cs i 0 < get_or (c ∷ cs) k 0) e (r (suc i) (omega arith))

above-all : (x : ℕ) (cs : List ℕ) → (0 < length cs → x < get_or cs 0 0) → Rising cs (length cs) → AllByRecursion (λ m. x < m) cs
above-all x [] f r = tt
above-all x (c ∷ cs) f r =
    let h : x < c = f (omega arith) in
    (h, above-all x cs (λ s. let k = r 0 (omega arith) in omega arith) (rest_rises c cs r))

pub climbs_of : (cs : List ℕ) → Rising cs (length cs) → Climbs cs
climbs_of [] r = tt
climbs_of (c ∷ cs) r = (above-all c cs (λ s. r 0 (omega arith)) (rest_rises c cs r), climbs_of cs (rest_rises c cs r))

pub listed_of : (height : ℕ) (cs : List ℕ) → Rising cs (length cs) → ((k : ℕ) → k < length cs → get_or cs k 0 < 4 ^ height) → Listed height cs
listed_of height cs r small = (climbs_of cs r, all-places (λ c. c < 4 ^ height) cs small)

-- what stands in a listing is listed
pub listed : (s : Listing) → Listed s.height.levels s.codes.now
listed s = listed_of s.height.levels s.codes.now s.rises.rising s.fits

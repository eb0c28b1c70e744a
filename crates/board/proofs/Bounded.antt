-- Near and far amounts bound distances.
use Rattle.std.proofs.Common.{◌≡◌, ℕ, suc, ◌+◌, ◌*◌, ◌/◌, ◌^◌, ◌<◌, ◌≤◌, ap₂, le_trans, add-zero, mul-le-mul_right, mul_assoc, suc-mul, mul_comm, add-mul, zero-add, div-one, arith}
use Rattle.std.proofs.lemmas.Nat.{pow_pos, pow-add, div-add-mod', mod_below}
use Rattle.board.specs.Morton.{x_of, y_of}
use Rattle.board.specs.Spans.{first, last, least, greatest, gap}
use Rattle.board.specs.Measures.{MeasureLaws}
use Rattle.board.specs.Distances.{distance, between, near, far, Bounds}
use Rattle.board.specs.CodeFacts.Codes.{x_outer, y_outer, x_lt, y_lt}

-- ---- along one axis

first-le : (l p : ℕ) → first l p ≤ last l p
unfolding first last
first-le l p = omega arith

last-le : (l p : ℕ) → last l p ≤ 65535
unfolding last
last-le l p = omega arith

-- the span of a place lies in that of the place around it
outer_first : (l p i : ℕ) → first (l + i) (p / 2 ^ i) ≤ first l p
unfolding first
outer_first l p i =
    let e = div-add-mod' p (2 ^ i) in
    let h : p / 2 ^ i * 2 ^ i ≤ p = omega arith in
    let m = mul-le-mul_right (2 ^ l) h in
    rw (pow-add 2 l i, mul_comm (2 ^ l) (2 ^ i), ← mul_assoc (p / 2 ^ i) (2 ^ i) (2 ^ l)) (omega arith)

outer_last : (l p i : ℕ) → last l p ≤ last (l + i) (p / 2 ^ i)
unfolding last
outer_last l p i =
    let e = div-add-mod' p (2 ^ i) in
    let b = mod_below p (2 ^ i) (pow_pos i) in
    let h : suc p ≤ p / 2 ^ i * 2 ^ i + 2 ^ i = omega arith in
    let m = mul-le-mul_right (2 ^ l) h in
    let pos = pow_pos l in
    rw (pow-add 2 l i, mul_comm (2 ^ l) (2 ^ i), ← mul_assoc (p / 2 ^ i) (2 ^ i) (2 ^ l)) (omega (arith, suc-mul p (2 ^ l), add-mul (p / 2 ^ i * 2 ^ i) (2 ^ i) (2 ^ l)))

least-le : (a b c d : ℕ) → a ≤ b → c ≤ d → least a b c d ≤ greatest a b c d
unfolding least greatest
least-le a b c d h k = omega arith

greatest-le : (a b c d : ℕ) → b ≤ 65535 → d ≤ 65535 → greatest a b c d ≤ 65535
unfolding greatest
greatest-le a b c d h k = omega arith

least_outer : (a b c d p q r s : ℕ) → p ≤ a → b ≤ q → r ≤ c → d ≤ s → least p q r s ≤ least a b c d
unfolding least
least_outer a b c d p q r s h1 h2 h3 h4 = omega arith

greatest_outer : (a b c d p q r s : ℕ) → p ≤ a → b ≤ q → r ≤ c → d ≤ s → greatest a b c d ≤ greatest p q r s
unfolding greatest
greatest_outer a b c d p q r s h1 h2 h3 h4 = omega arith

least-turned : (a b c d : ℕ) → least a b c d ≡ least c d a b
unfolding least
least-turned a b c d = omega arith

greatest-turned : (a b c d : ℕ) → greatest a b c d ≡ greatest c d a b
unfolding greatest
greatest-turned a b c d = omega arith

gap-turned : (p q : ℕ) → gap p q ≡ gap q p
unfolding gap
gap-turned p q = omega arith

one_first : (p : ℕ) → p < 2 ^ 16 → first 0 p ≡ p
unfolding first
one_first p h = omega arith

one_last : (p : ℕ) → p < 2 ^ 16 → last 0 p ≡ p
unfolding last
one_last p h = omega arith

least-cells : (p q : ℕ) → p < 2 ^ 16 → q < 2 ^ 16 → between least 0 p 0 q ≡ gap p q
unfolding least gap
least-cells p q h k = rw (one_first p h, one_last p h, one_first q k, one_last q k) (omega arith)

greatest-cells : (p q : ℕ) → p < 2 ^ 16 → q < 2 ^ 16 → between greatest 0 p 0 q ≡ gap p q
unfolding greatest gap
greatest-cells p q h k = rw (one_first p h, one_last p h, one_first q k, one_last q k) (omega arith)

-- ---- the places p and q, at the levels l and k

between-ordered : (l p k q : ℕ) → between least l p k q ≤ between greatest l p k q
between-ordered l p k q = least-le (first l p) (last l p) (first k q) (last k q) (first-le l p) (first-le k q)

between_limited : (l p k q : ℕ) → between greatest l p k q ≤ 65535
between_limited l p k q = greatest-le (first l p) (last l p) (first k q) (last k q) (last-le l p) (last-le k q)

between-near : (l p k q i j : ℕ) → between least (l + i) (p / 2 ^ i) (k + j) (q / 2 ^ j) ≤ between least l p k q
between-near l p k q i j =
    least_outer _ _ _ _ _ _ _ _ (outer_first l p i) (outer_last l p i) (outer_first k q j) (outer_last k q j)

between-far : (l p k q i j : ℕ) → between greatest l p k q ≤ between greatest (l + i) (p / 2 ^ i) (k + j) (q / 2 ^ j)
between-far l p k q i j =
    greatest_outer _ _ _ _ _ _ _ _ (outer_first l p i) (outer_last l p i) (outer_first k q j) (outer_last k q j)

-- ---- amounts
module _ (f : ℕ → ℕ → ℕ) (laws : MeasureLaws f) where
  ordered : (l m k n : ℕ) → near f l m k n ≤ far f l m k n
  unfolding near far
  ordered l m k n =
      laws.grows _ _ _ _ (between-ordered l (x_of m) k (x_of n)) (between-ordered l (y_of m) k (y_of n))
      (between_limited l (x_of m) k (x_of n)) (between_limited l (y_of m) k (y_of n))

  limited : (l m k n : ℕ) → far f l m k n ≤ 2 ^ 40
  unfolding far
  limited l m k n = laws.limited _ _ (between_limited l (x_of m) k (x_of n)) (between_limited l (y_of m) k (y_of n))

  topped : (l m k n : ℕ) → far f l m k n ≤ f 65535 65535
  unfolding far
  topped l m k n =
      laws.grows _ _ 65535 65535 (between_limited l (x_of m) k (x_of n)) (between_limited l (y_of m) k (y_of n)) (omega arith) (omega arith)

  near_turned : (l m k n : ℕ) → near f l m k n ≡ near f k n l m
  unfolding near
  near_turned l m k n = ap₂ f (least-turned _ _ _ _) (least-turned _ _ _ _)

  far_turned : (l m k n : ℕ) → far f l m k n ≡ far f k n l m
  unfolding far
  far_turned l m k n = ap₂ f (greatest-turned _ _ _ _) (greatest-turned _ _ _ _)

  distance_turned : (a b : ℕ) → distance f a b ≡ distance f b a
  unfolding distance
  distance_turned a b = ap₂ f (gap-turned _ _) (gap-turned _ _)

  outer_near : (l m k n i j : ℕ) → near f (l + i) (m / 4 ^ i) (k + j) (n / 4 ^ j) ≤ near f l m k n
  unfolding near
  outer_near l m k n i j =
      rw (x_outer m i, y_outer m i, x_outer n j, y_outer n j)
      (laws.grows _ _ _ _ (between-near l (x_of m) k (x_of n) i j) (between-near l (y_of m) k (y_of n) i j)
      (le_trans (between-ordered l (x_of m) k (x_of n)) (between_limited l (x_of m) k (x_of n)))
      (le_trans (between-ordered l (y_of m) k (y_of n)) (between_limited l (y_of m) k (y_of n))))

  outer_far : (l m k n i j : ℕ) → far f l m k n ≤ far f (l + i) (m / 4 ^ i) (k + j) (n / 4 ^ j)
  unfolding far
  outer_far l m k n i j =
      rw (x_outer m i, y_outer m i, x_outer n j, y_outer n j)
      (laws.grows _ _ _ _ (between-far l (x_of m) k (x_of n) i j) (between-far l (y_of m) k (y_of n) i j)
      (between_limited (l + i) (x_of m / 2 ^ i) (k + j) (x_of n / 2 ^ j)) (between_limited (l + i) (y_of m / 2 ^ i) (k + j) (y_of n / 2 ^ j)))

  cell_near : (a b : ℕ) → a < 2 ^ 32 → b < 2 ^ 32 → near f 0 a 0 b ≡ distance f a b
  unfolding near distance
  cell_near a b h g = ap₂ f (least-cells (x_of a) (x_of b) (x_lt a h) (x_lt b g)) (least-cells (y_of a) (y_of b) (y_lt a h) (y_lt b g))

  cell_far : (a b : ℕ) → a < 2 ^ 32 → b < 2 ^ 32 → far f 0 a 0 b ≡ distance f a b
  unfolding far distance
  cell_far a b h g = ap₂ f (greatest-cells (x_of a) (x_of b) (x_lt a h) (x_lt b g)) (greatest-cells (y_of a) (y_of b) (y_lt a h) (y_lt b g))

  pub bounds : Bounds f
  bounds = record {
    ordered = ordered;
    limited = limited;
    topped = topped;
    outer_near = outer_near;
    outer_far = outer_far;
    quarter_near = λ l m k n q t.
        let e : (4 * n + q) / 4 ≡ n = omega arith in
        rw (add-zero l, div-one m, e) at (outer_near l m k (4 * n + q) 0 1);
    quarters_far = λ l m k n q r t u.
        let e : (4 * m + q) / 4 ≡ m = omega arith in
        let d : (4 * n + r) / 4 ≡ n = omega arith in
        rw (e, d) at (outer_far l (4 * m + q) k (4 * n + r) 1 1);
    cell_near = cell_near;
    cell_far = cell_far;
    cell_limited = λ a b h g. rw (← cell_far a b h g) (limited 0 a 0 b);
    near_cells = λ l k a b h g. rw (← cell_near a b h g) (rw (zero-add l, zero-add k) at (outer_near 0 a 0 b l k));
    far_cells = λ l k a b h g. rw (← cell_far a b h g) (rw (zero-add l, zero-add k) at (outer_far 0 a 0 b l k));
    near_turned = near_turned;
    distance_turned = distance_turned;
    far_turned = far_turned;
  }

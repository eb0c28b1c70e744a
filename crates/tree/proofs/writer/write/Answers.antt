use Rattle.std.proofs.Common.{◌≡◌, ℕ, ◌*◌, List, length, subst, ap₂, inl, inr, arith}
use Rattle.std.proofs.lemmas.Bool.{cases_lt}
use Rattle.tree.specs.Bitmaps.{encode_t, encode_l}
use Rattle.tree.specs.Faults.{Cramped}
use Rattle.tree.specs.Passes.{Put}
use Rattle.tree.specs.Reader.{most_bits}
use Rattle.tree.specs.Writing.{Roomy, Writable}
use Rattle.tree.specs.declared.writer.Listing.{Listing}
use Rattle.tree.proofs.Putting.{put_length}
use Rattle.tree.proofs.Inscribing.{inscribed, back, again}
use Rattle.tree.proofs.writer.write.Goals as goal

-- room enough
roomy : (bytes n : ℕ) → (Cramped bytes n → ⊥) → Roomy bytes n
roomy bytes n f = (elim (cases_lt (8 * bytes) n) [ inl h ↦ absurd (f (inl h)) | inr h ↦ h ], elim (cases_lt most_bits n) [ inl h ↦ absurd (f (inr h)) | inr h ↦ h ])

-- what was accepted has room in both buffers
rooms : (s : Listing) (codes : List ℕ) (height tb lb : ℕ) → (s.codes.now ≡ codes) × (s.height.levels ≡ height) × Writable codes height tb lb
    → Roomy tb (length (encode_t s.height.levels s.codes.now)) × Roomy lb (length (encode_l s.height.levels s.codes.now))
rooms s codes height tb lb w = rw (w.0, w.1) (roomy tb (length (encode_t height codes)) w.2.room_t, roomy lb (length (encode_l height codes)) w.2.room_l)

pub overflow_mul-result : goal.overflow_mul-result
overflow_mul-result c = omega (arith, put_length _ _ _ _ _ c.write-t_blocks.ensures.upper, rooms c.in_ok-listing.listing _ _ _ _ c.in_ok-listing.ensures)

pub overflow_mul-result-2 : goal.overflow_mul-result-2
overflow_mul-result-2 c = omega (arith, put_length _ _ _ _ _ c.write-t_blocks.ensures.lower, rooms c.in_ok-listing.listing _ _ _ _ c.in_ok-listing.ensures)

pub returns : goal.returns
returns c =
    let e = c.in_ok-listing.ensures in
    let w = e.2 in
    let codes = c.args.codes.now in
    let h = c.args.height in
    let put = c.write-t_blocks in
    let up = inscribed c.args.t.now put.new.t put.result.0 (encode_t h codes) (subst (Put c.args.t.now put.new.t 0 put.result.0) (ap₂ encode_t e.1 e.0) put.ensures.upper) in
    let low = inscribed c.args.l.now put.new.l put.result.1 (encode_l h codes) (subst (Put c.args.l.now put.new.l 0 put.result.1) (ap₂ encode_l e.1 e.0) put.ensures.lower) in
    let a = roomy (length c.args.t.now) (length (encode_t h codes)) w.room_t in
    let b = roomy (length c.args.l.now) (length (encode_l h codes)) w.room_l in
    let n = up.size in
    let m = low.size in
    record {
      written_or_refused = (w, up, low);
      reads_back = back codes h w.high w.listed c.args.t.now put.new.t (4 * put.result.0) up c.args.l.now put.new.l (4 * put.result.1) low;
      opens_again = again codes h w.high w.listed c.args.t.now put.new.t (4 * put.result.0) up c.args.l.now put.new.l (4 * put.result.1) low
          (omega (arith, n, a.0, put.auto.t)) (omega (arith, m, b.0, put.auto.l)) (omega (arith, n, a.1)) (omega (arith, m, b.1));
    }

-- The records of a film are its groups of four bytes.
use Rattle.std.proofs.Common.{◌≡◌, ℕ, suc, zero, ◌+◌, ◌*◌, ◌/◌, ◌<◌, ◌≤◌, List, [], ◌∷◌, length, map, refl, ap, arith}
use Rattle.std.specs.Simd.{first_chunks}
use Rattle.job.specs.Records.{records, code_of_record}

grouped : (k : ℕ) (bs : List ℕ) → 4 * k ≤ length bs → length bs < 4 * k + 4 → map code_of_record (first_chunks 4 k bs) ≡ records bs
grouped zero [] h l = refl
grouped zero (a ∷ []) h l = refl
grouped zero (a ∷ b ∷ []) h l = refl
grouped zero (a ∷ b ∷ c ∷ []) h l = refl
grouped zero (a ∷ b ∷ c ∷ d ∷ bs) h l = absurd (omega arith)
grouped (suc k) [] h l = absurd (omega arith)
grouped (suc k) (a ∷ []) h l = absurd (omega arith)
grouped (suc k) (a ∷ b ∷ []) h l = absurd (omega arith)
grouped (suc k) (a ∷ b ∷ c ∷ []) h l = absurd (omega arith)
grouped (suc k) (a ∷ b ∷ c ∷ d ∷ bs) h l =
    ap (λ cs. code_of_record (a ∷ b ∷ c ∷ d ∷ []) ∷ cs) (grouped k bs (omega arith) (omega arith))

pub records_are_groups : (bs : List ℕ) → map code_of_record (first_chunks 4 (length bs / 4) bs) ≡ records bs
records_are_groups bs = grouped (length bs / 4) bs (omega arith) (omega arith)

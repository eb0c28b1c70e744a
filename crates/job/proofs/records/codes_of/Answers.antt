use Rattle.std.proofs.Common.{rules, ◌≡◌, IfOk, vec_items, map, length, ◌/◌}
use Rattle.std.specs.Simd.{first_chunks}
use Rattle.job.specs.Records.{code_of_record}
use Rattle.job.proofs.Reading.{records_are_groups}
use Rattle.job.proofs.records.codes_of.Goals as goal

pub returns : goal.returns
returns c =
    let bs = c.args.bytes.now in
    let ran : IfOk c.collect.result (λ v. vec_items v ≡ map code_of_record (first_chunks 4 (length bs / 4) bs)) = search rules in
    record { codes_of_the_records = rw (records_are_groups bs) at ran }

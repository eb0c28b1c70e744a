-- How a call that allocates fails.
use Rattle.std.specs.Prelude.{Ok, Err, Result, alloc_error}
use Rattle.std.specs.declared.alloc.AllocError.{AllocError}
use Rattle.job.specs.declared.failure.Failure.{Failure}
use Rattle.job.specs.declared.failure.Failure.TheVariants.{Refused, NoMemory}

-- what is so where a call fails: of want of memory nothing is said
abbrev pub Stopped : {F : Type 0} → Failure F → (F → Type 0) → Type 0
Stopped (Refused f) P = P f
Stopped NoMemory P = Unit {0}

-- the fault, or that memory was wanting
abbrev pub refusal_of : {F : Type 0} → Failure F → Result F AllocError
refusal_of (Refused f) = Ok f
refusal_of NoMemory = Err alloc_error

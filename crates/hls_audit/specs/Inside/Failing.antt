-- The sooner of two failures.
use Rattle.std.specs.Prelude.{ℕ, Option, Some, None, nat_lt, if◌then◌else◌}
use Rattle.hls_audit.specs.declared.auditing.Outcome.{Outcome}
use Rattle.hls_audit.specs.declared.auditing.Outcome.TheVariants.{Kept, Broken}

-- the sooner of a failure and the first one of a later clause
abbrev pub sooner : Outcome → (clause : ℕ) → Option ℕ → Outcome
sooner found clause None = found
sooner Kept clause (Some t) = Broken clause t
sooner (Broken number s) clause (Some t) = if nat_lt t s then Broken clause t else Broken number s

-- where it was found, or else the end
abbrev pub bound : Outcome → (horizon : ℕ) → ℕ
bound Kept horizon = horizon
bound (Broken number t) horizon = t

-- A job is within its bound.
use Rattle.std.specs.Prelude.{ℕ, ◌≤◌, ◌<◌}
use Rattle.hls_view_jobs.specs.declared.job.Fate.{Fate}
use Rattle.hls_view_jobs.specs.declared.job.Fate.TheVariants.{Done}
use Rattle.hls_view_jobs.specs.declared.job.Job.{Job}

-- it has at most so many ticks where it is done, and fewer where it is not
abbrev pub IsWithinBound : (bound : ℕ) → Job → Fate → Type 0
IsWithinBound bound job (Done at) = job.ticks ≤ bound
IsWithinBound bound job _ = job.ticks < bound

-- Jobs that a wake or a block drops, by their fates.
use Rattle.std.specs.Prelude.{ℕ, Some, Bool, false}
use Rattle.hls_view_jobs.specs.declared.job.Fate.{Fate}
use Rattle.hls_view_jobs.specs.declared.job.Fate.TheVariants.{Dropped}
use Rattle.hls_view_signs.specs.Happenings.{breaks}

-- it was dropped by a wake or a block of a tick
abbrev pub has_ended_by : (t : ℕ) → Fate → Bool
has_ended_by t (Dropped by) = breaks t (Some by)
has_ended_by t _ = false

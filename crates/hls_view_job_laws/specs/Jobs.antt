-- The ticks of a job, and its bound.
use Rattle.std.specs.Prelude.{◌≡◌, ℕ, ◌+◌, ◌≤◌, ◌<◌, Some, true}
use Rattle.hls_text.specs.Lines.{Text}
use Rattle.hls_report_text.specs.Content.{Content}
use Rattle.hls_legal.specs.Ready.{is_ready}
use Rattle.hls_view_jobs.specs.declared.job.Job.{Job}
use Rattle.hls_view_jobs.specs.Promises.{IsWithinBound}

pub record IsTickOf (job : Job) (t : ℕ) : Type 0 where
  pub since : job.release ≤ t
  pub before : t < job.release + job.ticks

-- in all its ticks the thread of a name is ready
abbrev pub IsReadyThroughout : Content → (name : Text) → Job → Type 0
IsReadyThroughout c name job = (t : ℕ) → IsTickOf job t → is_ready c name t ≡ true

-- it is within its bound, if it has one
abbrev pub KeepsBound : Job → Type 0
KeepsBound job = (bound : ℕ) → job.bound ≡ Some bound → IsWithinBound bound job job.fate

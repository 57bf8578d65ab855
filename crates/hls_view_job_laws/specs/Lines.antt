-- The line of a thread, and its bound.
use Rattle.std.specs.Prelude.{◌≡◌, ℕ, ◌≤◌, List, [], ◌∷◌, Some, IfSome}
use Rattle.hls_view_jobs.specs.declared.summary.Responses.{Responses}
use Rattle.hls_view_jobs.specs.declared.summary.ThreadJobs.{ThreadJobs}
use Rattle.hls_view_jobs.specs.Threads.{Life}
use Rattle.hls_view_job_laws.specs.Lives.{IsWokenForJobs}

pub record IsLineInBound (life : Life) (line : ThreadJobs) : Type 0 where
  -- no response is longer than the bound
  pub worst : (responses : Responses) (bound : ℕ) → line.summary.responses ≡ Some responses
      → line.summary.bound ≡ Some bound → responses.longest.ticks ≤ bound
  -- where each wake releases a job, and no two releases are closer than the bound, no wake drops a job
  pub by_wake : (bound : ℕ) → IsWokenForJobs life → line.summary.bound ≡ Some bound
      → IfSome line.summary.apart (λ apart. bound ≤ apart) → line.summary.by_wake ≡ 0

-- each line is that of its thread
abbrev pub AreLinesInBound : List Life → List ThreadJobs → Type 0
AreLinesInBound [] [] = Unit {0}
AreLinesInBound (life ∷ lives) (line ∷ lines) = IsLineInBound life line × AreLinesInBound lives lines
AreLinesInBound _ _ = ⊥

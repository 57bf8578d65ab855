-- A thread of a report with its jobs.
use Rattle.std.specs.Prelude.{◌≡◌, ℕ, ◌-◌, List, All, Contains, Bool, true, false, None, filter, length}
use Rattle.hls_chron.specs.Ticks.{count}
use Rattle.hls_report_text.specs.Content.{Content}
use Rattle.hls_view_jobs.specs.declared.job.Sort.{Sort}
use Rattle.hls_view_jobs.specs.declared.job.Sort.TheVariants.{Wakes}
use Rattle.hls_view_jobs.specs.declared.job.Word.{Word}
use Rattle.hls_view_jobs.specs.declared.job.Job.{Job}
use Rattle.hls_view_jobs.specs.Words.{is_wake, end_in}
use Rattle.hls_view_jobs.specs.Jobs.{releases, AreJobs}
use Rattle.hls_view_jobs.specs.Threads.{Life, lasting}

-- one of the threads of the report, and its jobs
pub record HasJobs (c : Content) (life : Life) (jobs : List Job) : Type 0 where
  pub listed : Contains (lasting c) life
  pub are : AreJobs c life.name (releases life.words) jobs

-- a wake that does not say for how many ticks
abbrev pub is_endless : Sort → Bool
is_endless (Wakes None) = true
is_endless _ = false

-- how often it is woken, the later releases of its periodic wakes with the wakes that were commanded
abbrev pub releases_in : Life → ℕ
releases_in life = length (filter (λ (word : Word). is_wake word.sort) life.words)

-- each of its wakes does say so, and so releases a job
abbrev pub IsWokenForJobs : Life → Type 0
IsWokenForJobs life = All (λ (word : Word). is_endless word.sort ≡ false) life.words

-- how many of its ticks pass a test
abbrev pub ticks_with : Content → Life → (ℕ → Bool) → ℕ
ticks_with c life test = count test life.from (end_in c.horizon life.words - life.from)

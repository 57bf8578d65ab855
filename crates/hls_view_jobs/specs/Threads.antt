-- Threads of a report, each from its admission to its end.
use Rattle.std.specs.Prelude.{ℕ, List, [], ◌∷◌, ◌++◌, filter, flat_map, nat_lt, Bool, if◌then◌else◌, Option, Some, None}
use Rattle.std.specs.Str.{bytes_eq}
use Rattle.hls_text.specs.Lines.{Text}
use Rattle.hls_scenario.specs.declared.scenario.Command.{Command}
use Rattle.hls_scenario.specs.declared.scenario.Command.TheVariants.{Thread}
use Rattle.hls_report_text.specs.declared.report.Answered.{Answered}
use Rattle.hls_report_text.specs.Content.{Content}
use Rattle.hls_legal.specs.Commands.{is_done}
use Rattle.hls_view_jobs.specs.declared.job.Word.{Word}
use Rattle.hls_view_jobs.specs.declared.job.Release.{Release}
use Rattle.hls_view_jobs.specs.declared.job.Job.{Job}
use Rattle.hls_view_jobs.specs.Words.{words_on, wakes_on, end_in}
use Rattle.hls_view_jobs.specs.Jobs.{releases, AreJobs}

-- its name, the tick of its admission, the words on it from there on, and how many of these are wakes that were
-- commanded
pub record Life : Type 0 where
  pub name : Text
  pub from : ℕ
  pub words : List Word
  pub wakes : ℕ

-- whom a command admits
abbrev pub admits : Command → Option Text
admits (Thread name perch) = Some name
admits _ = None

abbrev pub admitted : Answered → Option Text
admitted a = if is_done a.answer then admits a.command else None

abbrev pub life_of : (horizon tick : ℕ) → (after : List Answered) → Option Text → List Life
life_of horizon tick after None = []
life_of horizon tick after (Some name) =
    record { name = name; from = tick; words = words_on horizon name after; wakes = wakes_on name after } ∷ []

-- each thread that is admitted, in the order of admissions
abbrev pub lives : (horizon : ℕ) → List Answered → List Life
lives horizon [] = []
lives horizon (a ∷ after) = life_of horizon a.tick after (admitted a) ++ lives horizon after

abbrev pub has_tick : (horizon : ℕ) → Life → Bool
has_tick horizon life = nat_lt life.from (end_in horizon life.words)

-- those that have a tick
abbrev pub lasting : Content → List Life
lasting c = filter (has_tick c.horizon) (lives c.horizon c.answered)

-- ---- of one name

abbrev pub is_named : (name : Text) → Life → Bool
is_named name life = bytes_eq life.name name

-- the releases of all its threads that have a tick
abbrev pub releases_of : Content → (name : Text) → List Release
releases_of c name = flat_map (λ (life : Life). releases life.words) (filter (is_named name) (lasting c))

-- a job for each of them
abbrev pub AreJobsOf : Content → (name : Text) → List Job → Type 0
AreJobsOf c name jobs = AreJobs c name (releases_of c name) jobs

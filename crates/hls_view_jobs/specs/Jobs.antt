-- Jobs: each wake for so many ticks releases one, and so does each later release of a periodic wake.
use Rattle.std.specs.Prelude.{◌≡◌, ℕ, ◌+◌, ◌-◌, ◌≤◌, ◌<◌, List, [], ◌∷◌, ◌++◌, Option, Some, None, Bool}
use Rattle.std.specs.Prelude.{◌&&◌, nat_le, find, option_map, zero, suc}
use Rattle.std.specs.Str.{bytes_eq}
use Rattle.hls_text.specs.Lines.{Text}
use Rattle.hls_chron.specs.Ticks.{count}
use Rattle.hls_report_text.specs.Content.{Content}
use Rattle.hls_legal.specs.declared.stay.Stay.{Stay}
use Rattle.hls_legal.specs.Schedule.{is_served}
use Rattle.hls_legal.specs.Stays.{stays}
use Rattle.hls_legal.specs.Accounts.{end_by}
use Rattle.hls_view_jobs.specs.declared.job.Sort.{Sort}
use Rattle.hls_view_jobs.specs.declared.job.Sort.TheVariants.{Wakes}
use Rattle.hls_view_jobs.specs.declared.job.Word.{Word}
use Rattle.hls_view_jobs.specs.declared.job.Release.{Release}
use Rattle.hls_view_jobs.specs.declared.job.Fate.{Fate}
use Rattle.hls_view_jobs.specs.declared.job.Fate.TheVariants.{Done, Dropped, Open}
use Rattle.hls_view_jobs.specs.declared.job.Job.{Job}
use Rattle.hls_view_jobs.specs.Words.{first}
use Rattle.hls_view_jobs.specs.Bounds.{promised_in}

-- ---- releases

-- a wake for so many ticks releases a job, and lasts up to the next word
abbrev pub release_of : (tick : ℕ) → Sort → (next : Option Word) → List Release
release_of tick (Wakes (Some ticks)) next = record { tick = tick; asked = ticks; next = next } ∷ []
release_of tick _ next = []

abbrev pub releases : List Word → List Release
releases [] = []
releases (word ∷ words) = release_of word.tick word.sort (first words) ++ releases words

-- the tick of the next word, or else the horizon
abbrev pub until : (horizon : ℕ) → Release → ℕ
until horizon r = end_by horizon (option_map (λ (w : Word). w.tick) r.next)

-- ---- what became of a job

-- done in the last of its ticks, with which it has all that it asks for
pub record IsDone (served : ℕ → Bool) (until : ℕ) (job : Job) (at : ℕ) : Type 0 where
  pub last : at + 1 ≡ job.release + job.ticks
  pub some : 1 ≤ job.ticks
  pub within : at < until
  pub fewer : count served job.release (job.ticks - 1) < job.asked
  pub all : count served job.release job.ticks ≡ job.asked

-- not done by a tick, before which all its ticks are
pub record IsLeft (served : ℕ → Bool) (until : ℕ) (job : Job) : Type 0 where
  pub ticks : job.release + job.ticks ≡ until
  pub fewer : count served job.release job.ticks < job.asked

abbrev pub IsFate : (served : ℕ → Bool) → (until : ℕ) → (next : Option Word) → Job → Fate → Type 0
IsFate served until next job (Done at) = IsDone served until job at
IsFate served until next job (Dropped by) = (next ≡ Some by) × IsLeft served until job
IsFate served until next job Open = (next ≡ None) × IsLeft served until job

-- ---- its bound

-- a stay has so many ticks from one on
abbrev pub has_ticks : (horizon from ticks : ℕ) → Stay → Bool
has_ticks horizon from ticks stay = nat_le stay.since from && nat_le (from + ticks) (end_by horizon stay.until)

abbrev pub is_of : (name : Text) → Stay → Bool
is_of name stay = bytes_eq stay.name name

-- the guarantee of the stay of a thread that has all the ticks of a job, if there are any
abbrev pub stay_with : Content → (name : Text) → (from ticks : ℕ) → Option Stay
stay_with c name from zero = None
stay_with c name from (suc ticks) =
    find (λ (stay : Stay). is_of name stay && has_ticks c.horizon from (suc ticks) stay) (stays c.answered)

abbrev pub bound_by : (asked : ℕ) → Option Stay → Option ℕ
bound_by asked None = None
bound_by asked (Some stay) = promised_in stay.kept asked

-- ---- jobs

pub record IsJob (c : Content) (name : Text) (r : Release) (job : Job) : Type 0 where
  pub release : job.release ≡ r.tick
  pub asked : job.asked ≡ r.asked
  pub fate : IsFate (is_served c.stretches name) (until c.horizon r) r.next job job.fate
  pub got : job.got ≡ count (is_served c.stretches name) job.release job.ticks
  pub bound : job.bound ≡ bound_by job.asked (stay_with c name job.release job.ticks)

-- a job for each release, in their order
abbrev pub AreJobs : Content → (name : Text) → List Release → List Job → Type 0
AreJobs c name [] [] = Unit {0}
AreJobs c name (r ∷ all) (job ∷ jobs) = IsJob c name r job × AreJobs c name all jobs
AreJobs c name _ _ = ⊥

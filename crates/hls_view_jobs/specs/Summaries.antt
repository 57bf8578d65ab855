-- What the jobs of a thread come to.
use Rattle.std.specs.Prelude.{◌≡◌, ℕ, ◌-◌, ◌≤◌, ◌<◌, ◌⊎◌, List, [], ◌∷◌, Option, Some, None, Bool, true, false}
use Rattle.std.specs.Prelude.{length, get_or, map, filter, sum, nat_le}
use Rattle.hls_frac.specs.Frac.{IsQuotient}
use Rattle.hls_report_text.specs.Content.{Content}
use Rattle.hls_view_jobs.specs.declared.job.Fate.{Fate}
use Rattle.hls_view_jobs.specs.declared.job.Fate.TheVariants.{Done, Dropped, Open}
use Rattle.hls_view_jobs.specs.declared.job.Job.{Job}
use Rattle.hls_view_jobs.specs.declared.summary.Which.{Which}
use Rattle.hls_view_jobs.specs.declared.summary.Which.TheVariants as which
use Rattle.hls_view_jobs.specs.declared.summary.Number.{Number}
use Rattle.hls_view_jobs.specs.declared.summary.Number.TheVariants as numbers
use Rattle.hls_view_jobs.specs.declared.summary.Responses.{Responses}
use Rattle.hls_view_jobs.specs.declared.summary.Summary.{Summary}
use Rattle.hls_view_jobs.specs.declared.summary.ThreadJobs.{ThreadJobs}
use Rattle.hls_view_jobs.specs.Words.{is_wake, end_in}
use Rattle.hls_view_jobs.specs.Jobs.{releases, AreJobs}
use Rattle.hls_view_jobs.specs.Threads.{Life}

-- ---- which jobs

abbrev pub has_fate : Which → Fate → Bool
has_fate which.Done (Done at) = true
has_fate which.Dropped (Dropped by) = true
has_fate which.ByWake (Dropped by) = is_wake by.sort
has_fate which.Open Open = true
has_fate _ _ = false

abbrev pub of_fate : Which → Job → Bool
of_fate which job = has_fate which job.fate

abbrev pub has_ticks : Job → Bool
has_ticks job = nat_le 1 job.ticks

-- ---- numbers of jobs: for how many ticks, what is left of them, how many it has

abbrev pub number : Number → Job → ℕ
number numbers.Asked job = job.asked
number numbers.Lack job = job.asked - job.got
number numbers.Ticks job = job.ticks

-- how far each job is behind the one before it, and the first behind a tick
abbrev pub gaps_behind : (tick : ℕ) → List Job → List ℕ
gaps_behind tick [] = []
gaps_behind tick (job ∷ jobs) = (job.release - tick) ∷ gaps_behind job.release jobs

abbrev pub gaps : List Job → List ℕ
gaps [] = []
gaps (job ∷ jobs) = gaps_behind job.release jobs

-- one of the first so many is this, and none of them is less
pub record IsLeastUpTo (numbers : List ℕ) (i least : ℕ) : Type 0 where
  pub place : ℕ
  pub before : place < i
  pub there : get_or numbers place 0 ≡ least
  pub no_less : (k : ℕ) → k < i → least ≤ get_or numbers k 0

-- and none of them is more
pub record IsMostUpTo (numbers : List ℕ) (i most : ℕ) : Type 0 where
  pub place : ℕ
  pub before : place < i
  pub there : get_or numbers place 0 ≡ most
  pub no_more : (k : ℕ) → k < i → get_or numbers k 0 ≤ most

abbrev pub IsLeast : List ℕ → Option ℕ → Type 0
IsLeast numbers None = length numbers ≡ 0
IsLeast numbers (Some least) = IsLeastUpTo numbers (length numbers) least

abbrev pub IsMost : List ℕ → Option ℕ → Type 0
IsMost numbers None = length numbers ≡ 0
IsMost numbers (Some most) = IsMostUpTo numbers (length numbers) most

-- ---- responses: the ticks of jobs that are done

-- one of the first so many is this, none of them has more ticks, and those before it have fewer
pub record IsLongestUpTo (jobs : List Job) (i : ℕ) (longest : Job) : Type 0 where
  pub place : ℕ
  pub before : place < i
  pub there : (d : Job) → get_or jobs place d ≡ longest
  pub most : (k : ℕ) (d : Job) → k < i → (get_or jobs k d).ticks ≤ longest.ticks
  pub first : (k : ℕ) (d : Job) → k < place → (get_or jobs k d).ticks < longest.ticks

pub record AreResponses (done : List Job) (r : Responses) : Type 0 where
  pub best : IsLeast (map (number numbers.Ticks) done) (Some r.best)
  pub mean : IsQuotient r.mean (sum (map (number numbers.Ticks) done)) (length done)
  pub longest : IsLongestUpTo done (length done) r.longest

abbrev pub AreResponsesOf : List Job → Option Responses → Type 0
AreResponsesOf done None = length done ≡ 0
AreResponsesOf done (Some r) = AreResponses done r

-- ---- the greatest bound of jobs, each of which has one

abbrev pub IsAtMost : (most : ℕ) → Option ℕ → Type 0
IsAtMost most None = ⊥
IsAtMost most (Some bound) = bound ≤ most

pub record IsGreatestBound (jobs : List Job) (i most : ℕ) : Type 0 where
  pub place : ℕ
  pub before : place < i
  pub there : (d : Job) → (get_or jobs place d).bound ≡ Some most
  pub all : (k : ℕ) (d : Job) → k < i → IsAtMost most (get_or jobs k d).bound

pub record HasUnbounded (jobs : List Job) : Type 0 where
  pub place : ℕ
  pub within : place < length jobs
  pub there : (d : Job) → (get_or jobs place d).bound ≡ None

-- there is none where there are no jobs, or one has no bound
abbrev pub IsGreatest : List Job → Option ℕ → Type 0
IsGreatest jobs None = (length jobs ≡ 0) ⊎ HasUnbounded jobs
IsGreatest jobs (Some most) = IsGreatestBound jobs (length jobs) most

-- ---- all of it

pub record IsSummary (all : List Job) (s : Summary) : Type 0 where
  pub jobs : s.jobs ≡ length all
  pub done : s.done ≡ length (filter (of_fate which.Done) all)
  pub dropped : s.dropped ≡ length (filter (of_fate which.Dropped) all)
  pub by_wake : s.by_wake ≡ length (filter (of_fate which.ByWake) all)
  pub unfinished : s.unfinished ≡ length (filter (of_fate which.Open) all)
  pub asked : s.asked ≡ sum (map (number numbers.Asked) all)
  pub lost : s.lost ≡ sum (map (number numbers.Lack) (filter (of_fate which.Dropped) all))
  pub apart : IsLeast (gaps all) s.apart
  pub most : IsMost (map (number numbers.Asked) all) s.most
  pub responses : AreResponsesOf (filter (of_fate which.Done) all) s.responses
  pub bound : IsGreatest (filter has_ticks all) s.bound

-- the line of a thread
pub record IsLine (c : Content) (life : Life) (line : ThreadJobs) : Type 0 where
  pub name : line.name ≡ life.name
  pub from : line.from ≡ life.from
  pub to : line.to ≡ end_in c.horizon life.words - 1
  pub wakes : line.wakes ≡ life.wakes
  pub jobs : List Job
  pub are : AreJobs c life.name (releases life.words) jobs
  pub summary : IsSummary jobs line.summary

-- a line for each thread, in their order
abbrev pub AreLines : Content → List Life → List ThreadJobs → Type 0
AreLines c [] [] = Unit {0}
AreLines c (life ∷ lives) (line ∷ lines) = IsLine c life line × AreLines c lives lines
AreLines c _ _ = ⊥

-- Jobs and the ticks in which their thread is ready.
use Rattle.std.proofs.Common.{◌≡◌, ℕ, ◌+◌, ◌-◌, ◌<◌, ◌≤◌, List, [], ◌∷◌, ◌++◌, Bool, true, false, cond, inl, inr, refl}
use Rattle.std.proofs.Common.{sym}
use Rattle.std.proofs.Common.{ap, ◌∙◌, subst, arith, suc}
use Rattle.std.specs.Prelude.{Option, Some, None, All, Any, nat_lt}
use Rattle.std.specs.List.{AllByRecursion}
use Rattle.std.proofs.lemmas.Bool.{cases_lt, lt-ltb, le-ltb, both_ways}
use Rattle.std.proofs.lemmas.List.Elements.{All-from_recursion, recursion_from_All}
use Rattle.hls_text.specs.Lines.{Text}
use Rattle.hls_chron.specs.Ticks.{count}
use Rattle.hls_report_text.specs.Content.{Content}
use Rattle.hls_report_text.specs.WellFormed.{IsContent}
use Rattle.hls_legal.specs.Schedule.{is_served}
use Rattle.hls_legal.specs.Ready.{is_ready}
use Rattle.hls_view_jobs.specs.declared.job.Sort.{Sort}
use Rattle.hls_view_jobs.specs.declared.job.Sort.TheVariants.{Wakes, Blocks, Ends}
use Rattle.hls_view_jobs.specs.declared.job.Word.{Word}
use Rattle.hls_view_jobs.specs.declared.job.Release.{Release}
use Rattle.hls_view_jobs.specs.declared.job.Job.{Job}
use Rattle.hls_view_jobs.specs.Words.{is_end, end_in, first}
use Rattle.hls_view_jobs.specs.Jobs.{release_of, releases, until, IsJob, AreJobs}
use Rattle.hls_view_jobs.specs.Threads.{Life, releases_of, AreJobsOf}
use Rattle.hls_view_job_laws.specs.Jobs.{IsTickOf, IsReadyThroughout}
use Rattle.hls_view_job_laws.specs.Lives.{is_endless}
use Rattle.hls_view_job_laws.proofs.Saying.{until_next, IsSaid, AreSaid}
use Rattle.hls_view_job_laws.proofs.Admitted.{IsAdmitted, life_said, releases_all}
use Rattle.hls_view_job_laws.proofs.Spending.{spent}

-- up to the next word its thread is ready while it lacks something
abbrev pub IsKnown : Content → (name : Text) → Release → Type 0
IsKnown c name r = (t : ℕ) → r.tick ≤ t → t < until c.horizon r
    → is_ready c name t ≡ nat_lt (count (is_served c.stretches name) r.tick (t - r.tick)) r.asked

-- ---- one job

pub job_ready : (c : Content) (name : Text) (r : Release) (job : Job) → IsKnown c name r → IsJob c name r job
    → IsReadyThroughout c name job
job_ready c name r job known is t tick =
    let f = is_served c.stretches name in
    let s = spent f (until c.horizon r) r.next job job.fate is.fate in
    let release = is.release in
    let since = tick.since in
    let before = tick.before in
    let ends = s.ends in
    let few : count f job.release (t - job.release) < job.asked =
    s.lacks (t - job.release) (omega (arith, since, before)) in
    let here : count f r.tick (t - r.tick) < job.asked =
    subst (λ (n : ℕ). count f n (t - n) < job.asked) release few in
    let less : count f r.tick (t - r.tick) < r.asked =
    subst (λ (n : ℕ). count f r.tick (t - r.tick) < n) is.asked here in
    known t (omega (arith, release, since)) (omega (arith, before, ends))
    ∙ lt-ltb (count f r.tick (t - r.tick)) r.asked less

-- ready up to the next word, it is in a tick of the job
pub ready_within : (c : Content) (name : Text) (r : Release) (job : Job) (t : ℕ) → IsKnown c name r → IsJob c name r job
    → r.tick ≤ t → t < until c.horizon r → is_ready c name t ≡ true → IsTickOf job t
ready_within c name r job t known is from to on =
    let f = is_served c.stretches name in
    let s = spent f (until c.horizon r) r.next job job.fate is.fate in
    let release = is.release in
    elim (cases_lt t (job.release + job.ticks)) [
      | inl before ↦ record { since = omega (arith, release, from); before = before }
      | inr past ↦
          let all : job.asked ≤ count f job.release (t - job.release) =
          s.has (t - job.release) (omega (arith, past)) (omega (arith, release, from, to)) in
          let here : job.asked ≤ count f r.tick (t - r.tick) =
          subst (λ (n : ℕ). job.asked ≤ count f n (t - n)) release all in
          let enough : r.asked ≤ count f r.tick (t - r.tick) =
          subst (λ (n : ℕ). n ≤ count f r.tick (t - r.tick)) is.asked here in
          absurd (both_ways (is_ready c name t)
          (known t from to ∙ le-ltb (count f r.tick (t - r.tick)) r.asked enough) on)
    ]

-- ---- each job

onto_known : (c : Content) (name : Text) (tick : ℕ) (sort : Sort) (next : Option Word) (rest : List Release)
    → (is_end sort ≡ false → IsSaid c name (record { tick = tick; sort = sort }) next)
    → AllByRecursion (IsKnown c name) rest → AllByRecursion (IsKnown c name) (release_of tick sort next ++ rest)
onto_known c name tick (Wakes (Some ticks)) next rest said known = (said refl, known)
onto_known c name tick (Wakes None) next rest said known = known
onto_known c name tick Blocks next rest said known = known
onto_known c name tick Ends next rest said known = known

releases_known : (c : Content) (name : Text) (words : List Word) → AreSaid c name words
    → AllByRecursion (IsKnown c name) (releases words)
releases_known c name [] said = tt
releases_known c name (word ∷ words) said =
    onto_known c name word.tick word.sort (first words) (releases words) said.0 (releases_known c name words said.2)

jobs_ready : (c : Content) (name : Text) (all : List Release) (jobs : List Job)
    → AllByRecursion (IsKnown c name) all → AreJobs c name all jobs → AllByRecursion (IsReadyThroughout c name) jobs
jobs_ready c name [] [] known are = tt
jobs_ready c name [] (job ∷ jobs) known are = absurd are
jobs_ready c name (r ∷ all) [] known are = absurd are
jobs_ready c name (r ∷ all) (job ∷ jobs) known are =
    (job_ready c name r job known.0 are.0, jobs_ready c name all jobs known.1 are.1)

life_known : (c : Content) (life : Life) → IsAdmitted c life → All (IsKnown c life.name) (releases life.words)
life_known c life is =
    All-from_recursion (IsKnown c life.name) (releases life.words)
    (releases_known c life.name life.words (life_said c life is))

pub life_ready : (c : Content) (life : Life) (jobs : List Job) → IsAdmitted c life
    → AreJobs c life.name (releases life.words) jobs → All (IsReadyThroughout c life.name) jobs
life_ready c life jobs is are =
    All-from_recursion (IsReadyThroughout c life.name) jobs
    (jobs_ready c life.name (releases life.words) jobs
    (releases_known c life.name life.words (life_said c life is)) are)

pub all_ready : (c : Content) (name : Text) (jobs : List Job) → IsContent c → AreJobsOf c name jobs
    → All (IsReadyThroughout c name) jobs
all_ready c name jobs formed are =
    All-from_recursion (IsReadyThroughout c name) jobs
    (jobs_ready c name (releases_of c name) jobs
    (recursion_from_All (IsKnown c name) (releases_of c name) (releases_all c name (IsKnown c) formed (life_known c)))
    are)

-- ---- the jobs of one word, and those of the words behind it

pub record Parts (c : Content) (name : Text) (all more : List Release) (jobs : List Job) : Type 0 where
  pub front : List Job
  pub back : List Job
  pub whole : jobs ≡ front ++ back
  pub here : AreJobs c name all front
  pub rest : AreJobs c name more back

pub parts_of : (c : Content) (name : Text) (all more : List Release) (jobs : List Job)
    → AreJobs c name (all ++ more) jobs → Parts c name all more jobs
parts_of c name [] more jobs are = record { front = []; back = jobs; whole = refl; here = tt; rest = are }
parts_of c name (r ∷ all) more [] are = absurd are
parts_of c name (r ∷ all) more (job ∷ jobs) are =
    let p = parts_of c name all more jobs are.1 in
    record {
      front = job ∷ p.front;
      back = p.back;
      whole = ap (λ (l : List Job). job ∷ l) p.whole;
      here = (are.0, p.here);
      rest = p.rest;
    }

any_behind : {X : Type 0} (P : X → Type 0) (xs ys : List X) → Any P ys → Any P (xs ++ ys)
any_behind P [] ys any = any
any_behind P (x ∷ xs) ys any =
    let more = any_behind P xs ys any in
    let lt = more.2 in
    (suc more.0, more.1, omega (arith, lt), more.3, more.4)

-- before the tick at which a thread ends, no word has ended it
pub no_end : (end : Bool) (tick t else : ℕ) → tick ≤ t → t < cond end tick else → end ≡ false
no_end true tick t else from to = absurd (omega (arith, from, to))
no_end false tick t else from to = refl

module _ (c : Content) (name : Text) where
  in_segment : (tick : ℕ) (sort : Sort) (next : Option Word) (front back : List Job) (t : ℕ)
      → is_endless sort ≡ false → IsSaid c name (record { tick = tick; sort = sort }) next
      → AreJobs c name (release_of tick sort next) front → tick ≤ t → t < until_next c.horizon next
      → is_ready c name t ≡ true → Any (λ (job : Job). IsTickOf job t) (front ++ back)
  in_segment tick (Wakes None) next front back t finite said are from to on = absurd cc
  in_segment tick (Wakes (Some n)) next [] back t finite said are from to on = absurd are
  in_segment tick (Wakes (Some n)) next (job ∷ front) back t finite said are from to on =
      let r : Release = record { tick = tick; asked = n; next = next } in
      (0, job, omega arith, refl, ready_within c name r job t said are.0 from to on)
  in_segment tick Blocks next front back t finite said are from to on =
      absurd (both_ways (is_ready c name t) (said t from to) on)
  in_segment tick Ends next front back t finite said are from to on =
      absurd (both_ways (is_ready c name t) (said t from to) on)

  -- of the words from one on, whose wakes all release jobs
  pub ready_in_job : (tick : ℕ) (sort : Sort) (words : List Word) (jobs : List Job) (t : ℕ)
      → AllByRecursion (λ (word : Word). is_endless word.sort ≡ false) (record { tick = tick; sort = sort } ∷ words)
      → AreSaid c name (record { tick = tick; sort = sort } ∷ words)
      → AreJobs c name (releases (record { tick = tick; sort = sort } ∷ words)) jobs → tick ≤ t
      → t < end_in c.horizon (record { tick = tick; sort = sort } ∷ words) → is_ready c name t ≡ true
      → Any (λ (job : Job). IsTickOf job t) jobs
  ready_in_job tick sort [] jobs t finite said are from to on =
      let p = parts_of c name (release_of tick sort None) [] jobs are in
      let goes_on = no_end (is_end sort) tick t c.horizon from to in
      subst (Any (λ (job : Job). IsTickOf job t)) (sym p.whole)
      (in_segment tick sort None p.front p.back t finite.0 (said.0 goes_on) p.here from (rw goes_on at to) on)
  ready_in_job tick sort (word ∷ words) jobs t finite said are from to on =
      let p = parts_of c name (release_of tick sort (Some word)) (releases (word ∷ words)) jobs are in
      let goes_on = no_end (is_end sort) tick t (end_in c.horizon (word ∷ words)) from to in
      subst (Any (λ (job : Job). IsTickOf job t)) (sym p.whole)
      (elim (cases_lt t word.tick) [
        | inl before ↦
            in_segment tick sort (Some word) p.front p.back t finite.0 (said.0 goes_on) p.here from before on
        | inr later ↦
            any_behind (λ (job : Job). IsTickOf job t) p.front p.back
            (ready_in_job word.tick word.sort words p.back t finite.1 said.2 p.rest later (rw goes_on at to) on)
      ])

-- The line of a thread whose jobs keep their bounds.
use Rattle.std.proofs.Common.{◌≡◌, ℕ, ◌≤◌, List, [], ◌∷◌, Bool, true, false, cond, length, get_or, refl, sym, ap}
use Rattle.std.proofs.Common.{◌∙◌, subst, arith, inl, inr}
use Rattle.std.specs.Prelude.{Option, Some, None, IfSome, filter}
use Rattle.std.specs.List.{AllByRecursion}
use Rattle.std.proofs.lemmas.Bool.{cases_lt, le-leb, leb-true}
use Rattle.std.proofs.lemmas.List.Elements.{All-from_recursion, recursion_from_All, All-filter, All-from_get_or}
use Rattle.std.proofs.lemmas.List.Elements.{filter_passes}
use Rattle.hls_report_text.specs.Content.{Content}
use Rattle.hls_report_text.specs.WellFormed.{IsContent}
use Rattle.hls_audit_clauses.specs.Clauses.{Supplied}
use Rattle.hls_view_jobs.specs.declared.job.Word.{Word}
use Rattle.hls_view_jobs.specs.declared.job.Fate.{Fate}
use Rattle.hls_view_jobs.specs.declared.job.Fate.TheVariants as fates
use Rattle.hls_view_jobs.specs.declared.job.Job.{Job}
use Rattle.hls_view_jobs.specs.declared.summary.Which.TheVariants.{Done, ByWake}
use Rattle.hls_view_jobs.specs.declared.summary.Responses.{Responses}
use Rattle.hls_view_jobs.specs.declared.summary.ThreadJobs.{ThreadJobs}
use Rattle.hls_view_jobs.specs.Jobs.{releases}
use Rattle.hls_view_jobs.specs.Promises.{IsWithinBound}
use Rattle.hls_view_jobs.specs.Threads.{Life, lasting}
use Rattle.hls_view_jobs.specs.Inside.Sound.{IsRelease}
use Rattle.hls_view_jobs.specs.Summaries.{of_fate, has_ticks, gaps, IsLeast, AreResponsesOf, IsAtMost, IsGreatestBound}
use Rattle.hls_view_jobs.specs.Summaries.{IsGreatest, IsLine, AreLines}
use Rattle.hls_view_jobs.proofs.WordsSound.{releases_sound}
use Rattle.hls_view_job_laws.specs.Jobs.{IsReadyThroughout, KeepsBound}
use Rattle.hls_view_job_laws.specs.Lives.{is_endless, IsWokenForJobs}
use Rattle.hls_view_job_laws.specs.Lines.{IsLineInBound, AreLinesInBound}
use Rattle.hls_view_job_laws.specs.Clauses.{NeverFails}
use Rattle.hls_view_job_laws.proofs.Admitted.{IsAdmitted, lasting_admitted, life_words}
use Rattle.hls_view_job_laws.proofs.Readying.{life_ready}
use Rattle.hls_view_job_laws.proofs.Windowed.{jobs_bounded}
use Rattle.hls_view_job_laws.proofs.Woken.{none_pass}
use Rattle.hls_view_job_laws.proofs.Dropping.{IsInBound, none_dropped}

-- ---- a bound that none exceeds

looser : (few bound : ℕ) (job : Job) (fate : Fate) → few ≤ bound → IsWithinBound few job fate
    → IsWithinBound bound job fate
looser few bound job (fates.Done at) le within = omega (arith, le, within)
looser few bound job (fates.Dropped by) le within = omega (arith, le, within)
looser few bound job fates.Open le within = omega (arith, le, within)

in_bound : (bound : ℕ) (job : Job) (own : Option ℕ) → job.bound ≡ own → IsAtMost bound own → KeepsBound job
    → IsWithinBound bound job job.fate
in_bound bound job None is most keeps = absurd most
in_bound bound job (Some own) is most keeps = looser own bound job job.fate most (keeps own is)

each_in_bound : (bound : ℕ) (jobs : List Job) → AllByRecursion KeepsBound jobs
    → AllByRecursion (λ (job : Job). IsAtMost bound job.bound) (filter has_ticks jobs)
    → AllByRecursion (IsInBound bound) jobs
each_in_bound bound [] keep most = tt
each_in_bound bound (job ∷ jobs) keep most = by (has_ticks job) refl (each_in_bound bound jobs keep.1) most
  where
    by : (has : Bool) → has_ticks job ≡ has
        → (AllByRecursion (λ (one : Job). IsAtMost bound one.bound) (filter has_ticks jobs)
        → AllByRecursion (IsInBound bound) jobs)
        → AllByRecursion (λ (one : Job). IsAtMost bound one.bound)
        (cond has (job ∷ filter has_ticks jobs) (filter has_ticks jobs))
        → AllByRecursion (IsInBound bound) (job ∷ jobs)
    by true has rest most = (λ some. in_bound bound job job.bound refl most.0 keep.0, rest most.1)
    by false none rest most = (λ some. absurd (let has = le-leb 1 job.ticks some in cc), rest most)

pub all_in_bound : (bound : ℕ) (jobs : List Job) → AllByRecursion KeepsBound jobs
    → IsGreatestBound (filter has_ticks jobs) (length (filter has_ticks jobs)) bound
    → AllByRecursion (IsInBound bound) jobs
all_in_bound bound jobs keep greatest =
    each_in_bound bound jobs keep
    (recursion_from_All (λ (job : Job). IsAtMost bound job.bound) (filter has_ticks jobs) greatest.all)

-- ---- responses

no_more : (bound : ℕ) (job : Job) (fate : Fate) → IsWithinBound bound job fate → job.ticks ≤ bound
no_more bound job (fates.Done at) is = is
no_more bound job (fates.Dropped by) is = omega (arith, is)
no_more bound job fates.Open is = omega (arith, is)

few_ticks : (bound : ℕ) (job : Job) → IsInBound bound job → job.ticks ≤ bound
few_ticks bound job within = elim (cases_lt 0 job.ticks) [
  | inr none ↦ omega (arith, none)
  | inl some ↦ no_more bound job job.fate (within some)
]

all_few : (bound : ℕ) (jobs : List Job) → AllByRecursion (IsInBound bound) jobs
    → AllByRecursion (λ (job : Job). job.ticks ≤ bound) jobs
all_few bound [] within = tt
all_few bound (job ∷ jobs) within = (few_ticks bound job within.0, all_few bound jobs within.1)

worst_in : (bound : ℕ) (jobs : List Job) (r : Responses) → AllByRecursion (IsInBound bound) jobs
    → AreResponsesOf (filter (of_fate Done) jobs) (Some r) → r.longest.ticks ≤ bound
worst_in bound jobs r within are =
    let few = All-filter (of_fate Done) (λ (job : Job). job.ticks ≤ bound) jobs
    (All-from_recursion (λ (job : Job). job.ticks ≤ bound) jobs (all_few bound jobs within)) in
    subst (λ (job : Job). job.ticks ≤ bound) (are.longest.there r.longest)
    (few are.longest.place r.longest are.longest.before)

-- ---- and no wake drops a job

-- some job has a tick, and this bound
bound_some : (bound : ℕ) (jobs : List Job) → AllByRecursion (IsInBound bound) jobs
    → IsGreatestBound (filter has_ticks jobs) (length (filter has_ticks jobs)) bound → (job : Job) → 1 ≤ bound
bound_some bound jobs within greatest d =
    let place = greatest.place in
    let job = get_or (filter has_ticks jobs) place d in
    let some = leb-true 1 job.ticks (filter_passes has_ticks jobs place d greatest.before) in
    let few = All-filter has_ticks (λ (one : Job). one.ticks ≤ bound) jobs
    (All-from_recursion (λ (one : Job). one.ticks ≤ bound) jobs (all_few bound jobs within)) place d greatest.before in
    omega (arith, some, few)

far_apart : (bound : ℕ) (apart : Option ℕ) (numbers : List ℕ) → IfSome apart (λ least. bound ≤ least)
    → IsLeast numbers apart → AllByRecursion (λ gap. bound ≤ gap) numbers
far_apart bound None [] le least = tt
far_apart bound None (gap ∷ numbers) le least = absurd (omega (arith, least))
far_apart bound (Some apart) numbers le least =
    recursion_from_All (λ gap. bound ≤ gap) numbers
    (All-from_get_or (λ gap. bound ≤ gap) numbers 0
    (λ k lt. let no = least.no_less k lt in omega (arith, le, no)))

undropped : (c : Content) (life : Life) (line : ThreadJobs) (is : IsLine c life line) (bound : ℕ)
    → AllByRecursion (IsInBound bound) is.jobs
    → IsGreatestBound (filter has_ticks is.jobs) (length (filter has_ticks is.jobs)) bound
    → IsWokenForJobs life → IfSome line.summary.apart (λ apart. bound ≤ apart) → (jobs : List Job)
    → jobs ≡ is.jobs → line.summary.by_wake ≡ 0
undropped c life line is bound within greatest woken le [] e =
    is.summary.by_wake ∙ ap (λ (l : List Job). length (filter (of_fate ByWake) l)) (sym e)
undropped c life line is bound within greatest woken le (job ∷ jobs) e =
    is.summary.by_wake
    ∙ none_pass (of_fate ByWake) is.jobs
    (none_dropped c life.name bound (bound_some bound is.jobs within greatest job) life.words is.jobs
    (recursion_from_All (λ (word : Word). is_endless word.sort ≡ false) life.words woken)
    is.are (far_apart bound line.summary.apart (gaps is.jobs) le is.summary.apart) within)

line_in_bound : (c : Content) (life : Life) (line : ThreadJobs) (is : IsLine c life line)
    → AllByRecursion KeepsBound is.jobs → IsLineInBound life line
line_in_bound c life line is keep = record {
  worst = λ responses bound responded bounded.
      let greatest : IsGreatest (filter has_ticks is.jobs) (Some bound) =
      subst (IsGreatest (filter has_ticks is.jobs)) bounded is.summary.bound in
      worst_in bound is.jobs responses (all_in_bound bound is.jobs keep greatest)
      (subst (AreResponsesOf (filter (of_fate Done) is.jobs)) responded is.summary.responses);
  by_wake = λ bound woken bounded le.
      let greatest : IsGreatest (filter has_ticks is.jobs) (Some bound) =
      subst (IsGreatest (filter has_ticks is.jobs)) bounded is.summary.bound in
      undropped c life line is bound (all_in_bound bound is.jobs keep greatest) greatest woken le is.jobs refl;
}

-- ---- each line

line_keeps : (c : Content) (life : Life) (line : ThreadJobs) → IsContent c → NeverFails Supplied c → IsAdmitted c life
    → IsLine c life line → IsLineInBound life line
line_keeps c life line formed met admitted is =
    line_in_bound c life line is
    (jobs_bounded c life.name (releases life.words) is.jobs formed met
    (recursion_from_All (IsRelease c.horizon) (releases life.words)
    (releases_sound c.horizon life.from life.words (life_words c life admitted)))
    is.are (recursion_from_All (IsReadyThroughout c life.name) is.jobs (life_ready c life is.jobs admitted is.are)))

each_line : (c : Content) (lives : List Life) (lines : List ThreadJobs) → IsContent c → NeverFails Supplied c
    → AllByRecursion (IsAdmitted c) lives → AreLines c lives lines → AreLinesInBound lives lines
each_line c [] [] formed met admitted are = tt
each_line c [] (line ∷ lines) formed met admitted are = absurd are
each_line c (life ∷ lives) [] formed met admitted are = absurd are
each_line c (life ∷ lives) (line ∷ lines) formed met admitted are =
    (line_keeps c life line formed met admitted.0 are.0, each_line c lives lines formed met admitted.1 are.1)

pub lines_in_bound : (c : Content) (lines : List ThreadJobs) → IsContent c → NeverFails Supplied c
    → AreLines c (lasting c) lines → AreLinesInBound (lasting c) lines
lines_in_bound c lines formed met are =
    each_line c (lasting c) lines formed met
    (recursion_from_All (IsAdmitted c) (lasting c) (lasting_admitted c formed)) are

-- A thread each wake of which releases a job.
use Rattle.std.proofs.Common.{◌≡◌, ℕ, ◌+◌, ◌<◌, ◌≤◌, List, [], ◌∷◌, Bool, true, false, inl, inr, refl, sym, ap, ◌∙◌}
use Rattle.std.proofs.Common.{subst, arith}
use Rattle.std.specs.Prelude.{◌↔◌, Option, Some, None, Any, sum, map, option_and_then}
use Rattle.std.specs.List.{AllByRecursion, sum_by}
use Rattle.std.proofs.lemmas.Bool.{cases_Bool}
use Rattle.std.proofs.lemmas.List.Elements.{recursion_from_All}
use Rattle.std.proofs.lemmas.List.Sums.{sum_by-cons, sum-map}
use Rattle.std.proofs.lemmas.Slice.Eq.{bytes_eq-Decides}
use Rattle.hls_text.specs.Lines.{Text}
use Rattle.hls_audit_spans.proofs.Counts.{count_on}
use Rattle.hls_report_text.specs.Content.{Content}
use Rattle.hls_report_text.specs.WellFormed.{IsContent}
use Rattle.hls_legal.specs.Schedule.{path_at, last_name, is_name, is_served}
use Rattle.hls_legal.specs.Ready.{is_ready}
use Rattle.hls_audit_clauses.specs.Clauses.{Ready}
use Rattle.hls_view_jobs.specs.declared.job.Sort.TheVariants.{Blocks}
use Rattle.hls_view_jobs.specs.declared.job.Word.{Word}
use Rattle.hls_view_jobs.specs.declared.job.Job.{Job}
use Rattle.hls_view_jobs.specs.declared.summary.Number.TheVariants.{Ticks}
use Rattle.hls_view_jobs.specs.Words.{end_in}
use Rattle.hls_view_jobs.specs.Jobs.{releases}
use Rattle.hls_view_jobs.specs.Threads.{Life}
use Rattle.hls_view_jobs.specs.Summaries.{number}
use Rattle.hls_view_job_laws.specs.Jobs.{IsTickOf, IsReadyThroughout}
use Rattle.hls_view_job_laws.specs.Lives.{HasJobs, is_endless, IsWokenForJobs, ticks_with}
use Rattle.hls_view_job_laws.specs.Clauses.{NeverFails}
use Rattle.hls_view_job_laws.proofs.Saying.{AreSaid}
use Rattle.hls_view_job_laws.proofs.Admitted.{IsAdmitted, life_admitted, life_early, life_words, life_said, life_begins}
use Rattle.hls_view_job_laws.proofs.Readying.{life_ready, ready_in_job}
use Rattle.hls_view_job_laws.proofs.Counting.{in_job, count_in_jobs}
use Rattle.hls_view_job_laws.proofs.Lacking.{all_got}

-- ---- who is served is ready

record IsRun (name : Text) (path : Option (List Text)) : Type 0 where
  pub names : List Text
  pub is : path ≡ Some names
  pub thread : last_name names ≡ Some name

run_of : (name : Text) (path : Option (List Text)) → is_name name (option_and_then last_name path) ≡ true
    → IsRun name path
run_of name None on = absurd cc
run_of name (Some names) on = by (last_name names) refl on
  where
    by : (last : Option Text) → last_name names ≡ last → is_name name last ≡ true → IsRun name (Some names)
    by None is on = absurd cc
    by (Some other) is on =
        let same : other ≡ name = (bytes_eq-Decides other name).0 on in
        record { names = names; is = refl; thread = is ∙ ap Some same }

served_ready : (c : Content) (name : Text) (t : ℕ) → NeverFails Ready c → is_served c.stretches name t ≡ true
    → is_ready c name t ≡ true
unfolding is_served
served_ready c name t met on =
    let run = run_of name (path_at c.stretches t) on in
    elim (cases_Bool (is_ready c name t)) [
      | inl ready ↦ ready
      | inr unready ↦ absurd (met t (record {
        names = run.names;
        name = name;
        path = run.is;
        thread = run.thread;
        unready = unready;
      }))
    ]

-- ---- its ticks

module _ (c : Content) (life : Life) (jobs : List Job) (formed : IsContent c) (has : HasJobs c life jobs)
    (woken : IsWokenForJobs life) where
  admitted : IsAdmitted c life
  admitted = life_admitted c life formed has.listed

  finite : AllByRecursion (λ (word : Word). is_endless word.sort ≡ false)
      (record { tick = life.from; sort = Blocks } ∷ life.words)
  finite = (refl, recursion_from_All (λ (word : Word). is_endless word.sort ≡ false) life.words woken)

  said : AreSaid c life.name (record { tick = life.from; sort = Blocks } ∷ life.words)
  said = (λ off. life_begins c life admitted, λ on. absurd cc, life_said c life admitted)

  pub in_jobs : (t : ℕ) → life.from ≤ t → t < end_in c.horizon life.words
      → (is_ready c life.name t ≡ true) ↔ Any (λ (job : Job). IsTickOf job t) jobs
  in_jobs t from to = (
    λ on. ready_in_job c life.name life.from Blocks life.words jobs t finite said has.are from to on,
    λ any. subst (λ (job : Job). IsReadyThroughout c life.name job) any.3
        (life_ready c life jobs admitted has.are any.0 any.1 any.2) t any.4,
  )

  count_all : (f : ℕ → Bool) → ((t : ℕ) → f t ≡ true → is_ready c life.name t ≡ true)
      → sum_by (in_job f) jobs ≡ ticks_with c life f
  count_all f ready =
      sym (count_in_jobs c life.name f ready life.from Blocks life.words jobs finite said
      (life_early c life admitted) (life_words c life admitted) has.are)

  each_ready : (all : List Job) → AllByRecursion (IsReadyThroughout c life.name) all
      → sum_by (number Ticks) all ≡ sum_by (in_job (is_ready c life.name)) all
  each_ready [] ready = refl
  each_ready (job ∷ all) ready =
      let f = in_job (is_ready c life.name) in
      let here : f job ≡ job.ticks = count_on (is_ready c life.name) job.release job.ticks
      (λ t from to. ready.0 t (record { since = from; before = to })) in
      let rest = each_ready all ready.1 in
      let mine : sum_by (number Ticks) (job ∷ all) ≡ job.ticks + sum_by (number Ticks) all =
      sum_by-cons (number Ticks) job all in
      let theirs : sum_by f (job ∷ all) ≡ f job + sum_by f all = sum_by-cons f job all in
      omega (arith, here, rest, mine, theirs)

  pub ready_ticks : sum (map (number Ticks) jobs) ≡ ticks_with c life (is_ready c life.name)
  ready_ticks =
      sum-map (number Ticks) jobs
      ∙ each_ready jobs
      (recursion_from_All (IsReadyThroughout c life.name) jobs (life_ready c life jobs admitted has.are))
      ∙ count_all (is_ready c life.name) (λ t on. on)

  pub served_ticks : NeverFails Ready c
      → sum (map (λ (job : Job). job.got) jobs) ≡ ticks_with c life (is_served c.stretches life.name)
  served_ticks met =
      all_got c life.name (releases life.words) jobs has.are
      ∙ count_all (is_served c.stretches life.name) (λ t on. served_ready c life.name t met on)

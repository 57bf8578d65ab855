-- Where releases are no closer than the bound of jobs, no wake drops one.
use Rattle.std.proofs.Common.{◌≡◌, ℕ, ◌+◌, ◌-◌, ◌<◌, ◌≤◌, List, [], ◌∷◌, true, false, inl, inr, refl, sym, ap, ◌∙◌}
use Rattle.std.proofs.Common.{subst, arith}
use Rattle.std.specs.Prelude.{Some, None}
use Rattle.std.specs.List.{AllByRecursion}
use Rattle.std.proofs.lemmas.Bool.{cases_Bool, cases_lt}
use Rattle.hls_text.specs.Lines.{Text}
use Rattle.hls_report_text.specs.Content.{Content}
use Rattle.hls_legal.specs.Schedule.{is_served}
use Rattle.hls_view_jobs.specs.declared.job.Sort.{Sort}
use Rattle.hls_view_jobs.specs.declared.job.Sort.TheVariants.{Wakes, Blocks, Ends}
use Rattle.hls_view_jobs.specs.declared.job.Word.{Word}
use Rattle.hls_view_jobs.specs.declared.job.Release.{Release}
use Rattle.hls_view_jobs.specs.declared.job.Fate.{Fate}
use Rattle.hls_view_jobs.specs.declared.job.Fate.TheVariants as fates
use Rattle.hls_view_jobs.specs.declared.job.Job.{Job}
use Rattle.hls_view_jobs.specs.declared.summary.Which.TheVariants.{ByWake}
use Rattle.hls_view_jobs.specs.Words.{is_wake, first}
use Rattle.hls_view_jobs.specs.Jobs.{releases, until, IsFate, IsJob, AreJobs}
use Rattle.hls_view_jobs.specs.Promises.{IsWithinBound}
use Rattle.hls_view_jobs.specs.Summaries.{has_fate, of_fate, gaps_behind, gaps}
use Rattle.hls_view_job_laws.specs.Lives.{is_endless}

-- it has a tick, and is within this bound
abbrev pub IsInBound : (bound : ℕ) → Job → Type 0
IsInBound bound job = 1 ≤ job.ticks → IsWithinBound bound job job.fate

abbrev AreFinite : List Word → Type 0
AreFinite words = AllByRecursion (λ (word : Word). is_endless word.sort ≡ false) words

-- a wake releases the next job
next_release : (c : Content) (name : Text) (word : Word) (words : List Word) (jobs : List Job)
    → AreFinite (word ∷ words) → is_wake word.sort ≡ true → AreJobs c name (releases (word ∷ words)) jobs
    → (job : Job) × (rest : List Job) × (jobs ≡ job ∷ rest) × (job.release ≡ word.tick)
next_release c name word words jobs finite wake are = by word.sort refl finite.0 wake jobs are
  where
    by : (sort : Sort) → word.sort ≡ sort → is_endless sort ≡ false → is_wake sort ≡ true → (jobs : List Job)
        → AreJobs c name (releases (record { tick = word.tick; sort = sort } ∷ words)) jobs
        → (job : Job) × (rest : List Job) × (jobs ≡ job ∷ rest) × (job.release ≡ word.tick)
    by (Wakes None) e finite wake jobs are = absurd cc
    by (Wakes (Some n)) e finite wake [] are = absurd are
    by (Wakes (Some n)) e finite wake (job ∷ jobs) are = (job, jobs, refl, are.0.release)
    by Blocks e finite wake jobs are = absurd cc
    by Ends e finite wake jobs are = absurd cc

module _ (c : Content) (name : Text) (bound : ℕ) (some : 1 ≤ bound) where
  -- dropped by a wake, its ticks would be as many as the next release is behind it
  no_wake : (words : List Word) (by : Word) (r : Release) (job : Job) (jobs : List Job) → AreFinite words
      → first words ≡ Some by → r.next ≡ Some by → IsJob c name r job → AreJobs c name (releases words) jobs
      → AllByRecursion (λ gap. bound ≤ gap) (gaps_behind job.release jobs)
      → job.release + job.ticks ≡ until c.horizon r → (1 ≤ job.ticks → job.ticks < bound) → is_wake by.sort ≡ true → ⊥
  no_wake [] by r job jobs finite at next is are far ticks less wake = absurd cc
  no_wake (word ∷ words) by r job jobs finite at next is are far ticks less wake =
      let same : word ≡ by = cc in
      let n = next_release c name word words jobs finite (ap (λ (w : Word). is_wake w.sort) same ∙ wake) are in
      let gap : bound ≤ n.0.release - job.release =
      (subst (λ (l : List Job). AllByRecursion (λ gap. bound ≤ gap) (gaps_behind job.release l)) n.2 far).0 in
      let there : n.0.release ≡ by.tick = n.3 ∙ ap (λ (w : Word). w.tick) same in
      let end : until c.horizon r ≡ by.tick = rw next refl in
      elim (cases_lt 0 job.ticks) [
        | inl has ↦ let few = less has in omega (arith, few, gap, there, end, ticks)
        | inr none ↦ omega (arith, none, gap, there, end, ticks, some)
      ]

  not_dropped : (words : List Word) (r : Release) (job : Job) (jobs : List Job) (fate : Fate) → AreFinite words
      → r.next ≡ first words → IsJob c name r job → AreJobs c name (releases words) jobs
      → AllByRecursion (λ gap. bound ≤ gap) (gaps_behind job.release jobs)
      → IsFate (is_served c.stretches name) (until c.horizon r) r.next job fate
      → (1 ≤ job.ticks → IsWithinBound bound job fate) → has_fate ByWake fate ≡ false
  not_dropped words r job jobs (fates.Done at) finite next is are far fate within = refl
  not_dropped words r job jobs fates.Open finite next is are far fate within = refl
  not_dropped words r job jobs (fates.Dropped by) finite next is are far fate within =
      elim (cases_Bool (is_wake by.sort)) [
        | inr other ↦ other
        | inl wake ↦
            absurd (no_wake words by r job jobs finite (sym next ∙ fate.0) fate.0 is are far fate.1.ticks within wake)
      ]

  gaps_rest : (tick : ℕ) (jobs : List Job) → AllByRecursion (λ gap. bound ≤ gap) (gaps_behind tick jobs)
      → AllByRecursion (λ gap. bound ≤ gap) (gaps jobs)
  gaps_rest tick [] far = tt
  gaps_rest tick (job ∷ jobs) far = far.1

  pub none_dropped : (words : List Word) (jobs : List Job) → AreFinite words → AreJobs c name (releases words) jobs
      → AllByRecursion (λ gap. bound ≤ gap) (gaps jobs) → AllByRecursion (IsInBound bound) jobs
      → AllByRecursion (λ (job : Job). of_fate ByWake job ≡ false) jobs
  none_dropped [] [] finite are far within = tt
  none_dropped [] (job ∷ jobs) finite are far within = absurd are
  none_dropped (word ∷ words) jobs finite are far within =
      by (λ (more : List Job). none_dropped words more finite.1) word.sort jobs are far within
    where
      by : ((more : List Job) → AreJobs c name (releases words) more → AllByRecursion (λ gap. bound ≤ gap) (gaps more)
          → AllByRecursion (IsInBound bound) more → AllByRecursion (λ (job : Job). of_fate ByWake job ≡ false) more)
          → (sort : Sort) (jobs : List Job)
          → AreJobs c name (releases (record { tick = word.tick; sort = sort } ∷ words)) jobs
          → AllByRecursion (λ gap. bound ≤ gap) (gaps jobs) → AllByRecursion (IsInBound bound) jobs
          → AllByRecursion (λ (job : Job). of_fate ByWake job ≡ false) jobs
      by rest (Wakes (Some n)) [] are far within = absurd are
      by rest (Wakes (Some n)) (job ∷ jobs) are far within = (
        not_dropped words (record { tick = word.tick; asked = n; next = first words }) job jobs job.fate finite.1 refl
            are.0 are.1 far are.0.fate within.0,
        rest jobs are.1 (gaps_rest job.release jobs far) within.1,
      )
      by rest (Wakes None) jobs are far within = rest jobs are far within
      by rest Blocks jobs are far within = rest jobs are far within
      by rest Ends jobs are far within = rest jobs are far within

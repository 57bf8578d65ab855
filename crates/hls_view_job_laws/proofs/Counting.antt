-- How often a test is passed by ticks of jobs, where it is passed only while their thread is ready.
use Rattle.std.proofs.Common.{◌≡◌, ℕ, ◌+◌, ◌-◌, ◌<◌, ◌≤◌, List, [], ◌∷◌, ◌++◌, Bool, true, false, cond, inl, inr, sym}
use Rattle.std.proofs.Common.{ap, ◌∙◌, arith}
use Rattle.std.specs.Prelude.{Option, Some, None}
use Rattle.std.specs.List.{AllByRecursion, sum_by}
use Rattle.std.proofs.lemmas.Bool.{cases_Bool, both_ways}
use Rattle.std.proofs.lemmas.List.Sums.{sum_by-cons, sum_by-append}
use Rattle.hls_text.specs.Lines.{Text}
use Rattle.hls_chron.specs.Ticks.{count}
use Rattle.hls_chron.proofs.CountLaws.{count-none, count-add}
use Rattle.hls_audit_spans.proofs.Counts.{count_off}
use Rattle.hls_report_text.specs.Content.{Content}
use Rattle.hls_legal.specs.Schedule.{is_served}
use Rattle.hls_legal.specs.Ready.{is_ready}
use Rattle.hls_view_jobs.specs.declared.job.Sort.{Sort}
use Rattle.hls_view_jobs.specs.declared.job.Sort.TheVariants.{Wakes, Blocks, Ends}
use Rattle.hls_view_jobs.specs.declared.job.Word.{Word}
use Rattle.hls_view_jobs.specs.declared.job.Release.{Release}
use Rattle.hls_view_jobs.specs.declared.job.Job.{Job}
use Rattle.hls_view_jobs.specs.Words.{is_end, end_in}
use Rattle.hls_view_jobs.specs.Jobs.{release_of, releases, until, IsJob, AreJobs}
use Rattle.hls_view_jobs.specs.Inside.Sound.{AreWords}
use Rattle.hls_view_job_laws.specs.Lives.{is_endless}
use Rattle.hls_view_job_laws.proofs.Saying.{until_next, IsSaid, AreSaid}
use Rattle.hls_view_job_laws.proofs.Spending.{spent}
use Rattle.hls_view_job_laws.proofs.Readying.{IsKnown, ready_within, parts_of}

-- how many of a job's ticks pass a test
abbrev pub in_job : (ℕ → Bool) → Job → ℕ
in_job f job = count f job.release job.ticks

end_after : (horizon last : ℕ) (words : List Word) → last ≤ horizon → AreWords horizon last words
    → last ≤ end_in horizon words
end_after horizon last [] le are = le
end_after horizon last (word ∷ words) le are =
    let order = are.1 in
    let soon = are.2 in
    let rest = end_after horizon word.tick words (omega (arith, soon)) are.3 in
    by (is_end word.sort) (omega (arith, order, rest))
  where
    by : (end : Bool) → last ≤ end_in horizon words → last ≤ cond end word.tick (end_in horizon words)
    by true le = are.1
    by false le = le

module _ (c : Content) (name : Text) (f : ℕ → Bool) (ready : (t : ℕ) → f t ≡ true → is_ready c name t ≡ true) where
  not_ready : (t : ℕ) → is_ready c name t ≡ false → f t ≡ false
  not_ready t off = elim (cases_Bool (f t)) [
    | inl on ↦ absurd (both_ways (is_ready c name t) off (ready t on))
    | inr other ↦ other
  ]

  job_count : (r : Release) (job : Job) → IsKnown c name r → IsJob c name r job
      → count f r.tick (until c.horizon r - r.tick) ≡ in_job f job
  job_count r job known is =
      let s = spent (is_served c.stretches name) (until c.horizon r) r.next job job.fate is.fate in
      let release = is.release in
      let ends = s.ends in
      let left : ℕ = until c.horizon r - r.tick - job.ticks in
      let long : until c.horizon r - r.tick ≡ job.ticks + left = omega (arith, release, ends) in
      let none : count f (r.tick + job.ticks) left ≡ 0 =
      count_off f (r.tick + job.ticks) left (λ t from to. elim (cases_Bool (f t)) [
        | inl on ↦
            let early : t < until c.horizon r = omega (arith, from, to, ends, release) in
            let tick = ready_within c name r job t known is (omega (arith, from)) early (ready t on) in
            let before = tick.before in
            absurd (omega (arith, before, from, release))
        | inr off ↦ off
      ]) in
      let both = count-add f r.tick job.ticks left in
      let same : count f r.tick job.ticks ≡ in_job f job = ap (λ (n : ℕ). count f n job.ticks) (sym release) in
      ap (count f r.tick) long ∙ both ∙ omega (arith, none, same)

  segment_count : (tick : ℕ) (sort : Sort) (next : Option Word) (front : List Job) → is_endless sort ≡ false
      → IsSaid c name (record { tick = tick; sort = sort }) next → AreJobs c name (release_of tick sort next) front
      → tick ≤ until_next c.horizon next
      → count f tick (until_next c.horizon next - tick) ≡ sum_by (in_job f) front
  segment_count tick (Wakes None) next front finite said are le = absurd cc
  segment_count tick (Wakes (Some n)) next [] finite said are le = absurd are
  segment_count tick (Wakes (Some n)) next (job ∷ []) finite said are le =
      let one : count f tick (until_next c.horizon next - tick) ≡ in_job f job =
      job_count (record { tick = tick; asked = n; next = next }) job said are.0 in
      let sum : sum_by (in_job f) (job ∷ []) ≡ in_job f job + 0 = sum_by-cons (in_job f) job [] in
      omega (arith, one, sum)
  segment_count tick (Wakes (Some n)) next (job ∷ other ∷ front) finite said are le = absurd are.1
  segment_count tick Blocks next [] finite said are le =
      count_off f tick (until_next c.horizon next - tick)
      (λ t from to. not_ready t (said t from (omega (arith, to, le))))
  segment_count tick Blocks next (job ∷ front) finite said are le = absurd are
  segment_count tick Ends next [] finite said are le =
      count_off f tick (until_next c.horizon next - tick)
      (λ t from to. not_ready t (said t from (omega (arith, to, le))))
  segment_count tick Ends next (job ∷ front) finite said are le = absurd are

  -- nothing is counted of a word that ends the thread, which is the last
  ended_count : (tick : ℕ) (sort : Sort) (jobs : List Job) → is_end sort ≡ true
      → AreJobs c name (releases (record { tick = tick; sort = sort } ∷ [])) jobs
      → count f tick (tick - tick) ≡ sum_by (in_job f) jobs
  ended_count tick (Wakes burst) jobs end are = absurd cc
  ended_count tick Blocks jobs end are = absurd cc
  ended_count tick Ends [] end are =
      let none : tick - tick ≡ 0 = omega arith in ap (count f tick) none ∙ count-none f tick
  ended_count tick Ends (job ∷ jobs) end are = absurd are

  -- of the words from one on, whose wakes all release jobs
  pub count_in_jobs : (tick : ℕ) (sort : Sort) (words : List Word) (jobs : List Job)
      → AllByRecursion (λ (word : Word). is_endless word.sort ≡ false) (record { tick = tick; sort = sort } ∷ words)
      → AreSaid c name (record { tick = tick; sort = sort } ∷ words) → tick ≤ c.horizon
      → AreWords c.horizon tick words → AreJobs c name (releases (record { tick = tick; sort = sort } ∷ words)) jobs
      → count f tick (end_in c.horizon (record { tick = tick; sort = sort } ∷ words) - tick) ≡ sum_by (in_job f) jobs
  count_in_jobs tick sort [] jobs finite said le order are = elim (cases_Bool (is_end sort)) [
    | inl end ↦ rw end (ended_count tick sort jobs end are)
    | inr goes_on ↦
        let p = parts_of c name (release_of tick sort None) [] jobs are in
        let here = segment_count tick sort None p.front finite.0 (said.0 goes_on) p.here le in
        rw goes_on (here ∙ no_more p.front p.back jobs p.whole p.rest)
  ]
    where
      no_more : (front back jobs : List Job) → jobs ≡ front ++ back → AreJobs c name [] back
          → sum_by (in_job f) front ≡ sum_by (in_job f) jobs
      no_more front [] jobs whole rest =
          let sum : sum_by (in_job f) (front ++ []) ≡ sum_by (in_job f) front + 0 = sum_by-append (in_job f) front [] in
          let same : sum_by (in_job f) jobs ≡ sum_by (in_job f) (front ++ []) = ap (sum_by (in_job f)) whole in
          omega (arith, sum, same)
      no_more front (job ∷ back) jobs whole rest = absurd rest
  count_in_jobs tick sort (word ∷ words) jobs finite said le order are = elim (cases_Bool (is_end sort)) [
    | inl end ↦ absurd (let none = said.1 end in cc)
    | inr goes_on ↦
        let p = parts_of c name (release_of tick sort (Some word)) (releases (word ∷ words)) jobs are in
        let begins = order.1 in
        let soon = order.2 in
        let here : count f tick (word.tick - tick) ≡ sum_by (in_job f) p.front =
        segment_count tick sort (Some word) p.front finite.0 (said.0 goes_on) p.here begins in
        let rest =
        count_in_jobs word.tick word.sort words p.back finite.1 said.2 (omega (arith, soon)) order.3 p.rest in
        let end : ℕ = end_in c.horizon (word ∷ words) in
        let past : word.tick ≤ end = end_after c.horizon word.tick (word ∷ words) (omega (arith, soon))
        (order.0, omega arith, order.2, order.3) in
        let long : end - tick ≡ word.tick - tick + (end - word.tick) = omega (arith, begins, past) in
        let at : tick + (word.tick - tick) ≡ word.tick = omega (arith, begins) in
        let both = count-add f tick (word.tick - tick) (end - word.tick) in
        let there : count f (tick + (word.tick - tick)) (end - word.tick) ≡ count f word.tick (end - word.tick) =
        ap (λ (n : ℕ). count f n (end - word.tick)) at in
        let sum : sum_by (in_job f) (p.front ++ p.back) ≡ sum_by (in_job f) p.front + sum_by (in_job f) p.back =
        sum_by-append (in_job f) p.front p.back in
        let same : sum_by (in_job f) jobs ≡ sum_by (in_job f) (p.front ++ p.back) = ap (sum_by (in_job f)) p.whole in
        rw goes_on (ap (count f tick) long ∙ both ∙ omega (arith, there, here, rest, sum, same))
  ]

-- What jobs got, and what they lack of what they asked for.
use Rattle.std.proofs.Common.{◌≡◌, ℕ, ◌+◌, List, [], ◌∷◌, Bool, true, false, cond, refl, ◌∙◌, arith}
use Rattle.std.specs.Prelude.{map, filter, sum}
use Rattle.std.specs.List.{sum_by}
use Rattle.std.proofs.lemmas.List.Sums.{sum_by-cons, sum-map}
use Rattle.hls_text.specs.Lines.{Text}
use Rattle.hls_report_text.specs.Content.{Content}
use Rattle.hls_legal.specs.Schedule.{is_served}
use Rattle.hls_view_jobs.specs.declared.job.Release.{Release}
use Rattle.hls_view_jobs.specs.declared.job.Fate.{Fate}
use Rattle.hls_view_jobs.specs.declared.job.Fate.TheVariants as fates
use Rattle.hls_view_jobs.specs.declared.job.Job.{Job}
use Rattle.hls_view_jobs.specs.declared.summary.Which.{Which}
use Rattle.hls_view_jobs.specs.declared.summary.Which.TheVariants.{Dropped, Open}
use Rattle.hls_view_jobs.specs.declared.summary.Number.TheVariants.{Asked, Lack}
use Rattle.hls_view_jobs.specs.declared.summary.Summary.{Summary}
use Rattle.hls_view_jobs.specs.Jobs.{until, IsFate, IsJob, AreJobs}
use Rattle.hls_view_jobs.specs.Summaries.{number, of_fate, IsSummary}
use Rattle.hls_view_job_laws.proofs.Counting.{in_job}

abbrev got : Job → ℕ
got job = job.got

each_got : (c : Content) (name : Text) (all : List Release) (jobs : List Job) → AreJobs c name all jobs
    → sum_by got jobs ≡ sum_by (in_job (is_served c.stretches name)) jobs
each_got c name [] [] are = refl
each_got c name [] (job ∷ jobs) are = absurd are
each_got c name (r ∷ all) [] are = absurd are
each_got c name (r ∷ all) (job ∷ jobs) are =
    let f = in_job (is_served c.stretches name) in
    let rest = each_got c name all jobs are.1 in
    let here = are.0.got in
    let mine : sum_by got (job ∷ jobs) ≡ got job + sum_by got jobs = sum_by-cons got job jobs in
    let theirs : sum_by f (job ∷ jobs) ≡ f job + sum_by f jobs = sum_by-cons f job jobs in
    omega (arith, rest, here, mine, theirs)

pub all_got : (c : Content) (name : Text) (all : List Release) (jobs : List Job) → AreJobs c name all jobs
    → sum (map (λ (job : Job). job.got) jobs) ≡ sum_by (in_job (is_served c.stretches name)) jobs
all_got c name all jobs are = sum-map got jobs ∙ each_got c name all jobs are

-- ---- what they lack

abbrev lack : Job → ℕ
lack job = number Lack job

abbrev lacks : Which → List Job → ℕ
lacks which jobs = sum_by lack (filter (of_fate which) jobs)

abbrev lack_if : Bool → Job → ℕ
lack_if is job = cond is (lack job) 0

lacks_more : (which : Which) (job : Job) (jobs : List Job) (is : Bool) → of_fate which job ≡ is
    → lacks which (job ∷ jobs) ≡ lack_if is job + lacks which jobs
lacks_more which job jobs true is = rw is (sum_by-cons lack job (filter (of_fate which) jobs))
lacks_more which job jobs false is = rw is (omega arith)

-- a job has what it asked for, or lacks it
one_asked : (c : Content) (name : Text) (r : Release) (job : Job) (fate : Fate) → IsJob c name r job → job.fate ≡ fate
    → IsFate (is_served c.stretches name) (until c.horizon r) r.next job fate
    → got job + lack_if (of_fate Dropped job) job + lack_if (of_fate Open job) job ≡ job.asked
one_asked c name r job (fates.Done at) is fate_is fate =
    let have = is.got in
    let all = fate.all in
    rw fate_is (omega (arith, have, all))
one_asked c name r job (fates.Dropped by) is fate_is fate =
    let have = is.got in
    let fewer = fate.1.fewer in
    rw fate_is (omega (arith, have, fewer))
one_asked c name r job fates.Open is fate_is fate =
    let have = is.got in
    let fewer = fate.1.fewer in
    rw fate_is (omega (arith, have, fewer))

each_asked : (c : Content) (name : Text) (all : List Release) (jobs : List Job) → AreJobs c name all jobs
    → sum_by got jobs + lacks Dropped jobs + lacks Open jobs ≡ sum_by (number Asked) jobs
each_asked c name [] [] are = refl
each_asked c name [] (job ∷ jobs) are = absurd are
each_asked c name (r ∷ all) [] are = absurd are
each_asked c name (r ∷ all) (job ∷ jobs) are =
    let rest = each_asked c name all jobs are.1 in
    let here = one_asked c name r job job.fate are.0 refl are.0.fate in
    let dropped = lacks_more Dropped job jobs (of_fate Dropped job) refl in
    let left = lacks_more Open job jobs (of_fate Open job) refl in
    let mine : sum_by got (job ∷ jobs) ≡ got job + sum_by got jobs = sum_by-cons got job jobs in
    let theirs : sum_by (number Asked) (job ∷ jobs) ≡ job.asked + sum_by (number Asked) jobs =
    sum_by-cons (number Asked) job jobs in
    omega (arith, rest, here, dropped, left, mine, theirs)

pub asked_or_lacks : (c : Content) (name : Text) (all : List Release) (jobs : List Job) (s : Summary)
    → AreJobs c name all jobs → IsSummary jobs s
    → sum (map (λ (job : Job). job.got) jobs) + s.lost + sum (map (number Lack) (filter (of_fate Open) jobs)) ≡ s.asked
asked_or_lacks c name all jobs s are is =
    let lost = is.lost in
    let asked = is.asked in
    let each = each_asked c name all jobs are in
    let mine : sum (map (λ (job : Job). job.got) jobs) ≡ sum_by got jobs = sum-map got jobs in
    let theirs : sum (map (number Asked) jobs) ≡ sum_by (number Asked) jobs = sum-map (number Asked) jobs in
    let dropped : sum (map (number Lack) (filter (of_fate Dropped) jobs)) ≡ lacks Dropped jobs =
    sum-map lack (filter (of_fate Dropped) jobs) in
    let left : sum (map (number Lack) (filter (of_fate Open) jobs)) ≡ lacks Open jobs =
    sum-map lack (filter (of_fate Open) jobs) in
    omega (arith, lost, asked, each, mine, theirs, dropped, left)

use Rattle.std.proofs.Common.{◌≡◌, ℕ, suc, ◌+◌, List, [], ◌∷◌, length, filter, refl, arith}
use Rattle.hls_view_jobs.specs.declared.job.Fate.{Fate}
use Rattle.hls_view_jobs.specs.declared.job.Fate.TheVariants.{Done, Dropped, Open}
use Rattle.hls_view_jobs.specs.declared.job.Job.{Job}
use Rattle.hls_view_jobs.specs.declared.summary.Which.TheVariants as which
use Rattle.hls_view_jobs.specs.Summaries.{of_fate}
use Rattle.hls_view_jobs.proofs.laws.jobs_are_done_dropped_or_open.Goals as goal

-- jobs by their fates
abbrev many : (jobs : List Job) → ℕ
many jobs = length (filter (of_fate which.Done) jobs) + length (filter (of_fate which.Dropped) jobs)
    + length (filter (of_fate which.Open) jobs)

one_more : (job : Job) (jobs : List Job) (fate : Fate) → job.fate ≡ fate → many (job ∷ jobs) ≡ suc (many jobs)
one_more job jobs (Done at) is = rw is (omega arith)
one_more job jobs (Dropped by) is = rw is (omega arith)
one_more job jobs Open is = rw is (omega arith)

all_jobs : (jobs : List Job) → many jobs ≡ length jobs
all_jobs [] = refl
all_jobs (job ∷ jobs) = omega (arith, one_more job jobs job.fate refl, all_jobs jobs)

pub returns : goal.returns
returns c = λ jobs s is.
    let done = is.done in
    let dropped = is.dropped in
    let unfinished = is.unfinished in
    let all = is.jobs in
    omega (arith, done, dropped, unfinished, all, all_jobs jobs)

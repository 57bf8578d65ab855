-- How much of what it asks for a job has by each of its ticks.
use Rattle.std.proofs.Common.{ℕ, ◌+◌, ◌-◌, ◌<◌, ◌≤◌, Bool, arith}
use Rattle.std.specs.Prelude.{Option}
use Rattle.hls_chron.specs.Ticks.{count}
use Rattle.hls_chron.proofs.CountLaws.{count-within}
use Rattle.hls_view_jobs.specs.declared.job.Word.{Word}
use Rattle.hls_view_jobs.specs.declared.job.Fate.{Fate}
use Rattle.hls_view_jobs.specs.declared.job.Fate.TheVariants.{Done, Dropped, Open}
use Rattle.hls_view_jobs.specs.declared.job.Job.{Job}
use Rattle.hls_view_jobs.specs.Jobs.{IsLeft, IsFate}

-- in its ticks it lacks something, and behind them nothing
pub record IsSpent (f : ℕ → Bool) (until : ℕ) (job : Job) : Type 0 where
  pub ends : job.release + job.ticks ≤ until
  pub lacks : (n : ℕ) → n < job.ticks → count f job.release n < job.asked
  pub has : (n : ℕ) → job.ticks ≤ n → job.release + n < until → job.asked ≤ count f job.release n

count_up : (f : ℕ → Bool) (lo n more : ℕ) → n ≤ more → count f lo n ≤ count f lo more
count_up f lo n more le = (count-within f lo more lo n (omega arith) (omega (arith, le))).less

left_spent : (f : ℕ → Bool) (until : ℕ) (job : Job) → IsLeft f until job → IsSpent f until job
left_spent f until job is =
    let ticks = is.ticks in
    let fewer = is.fewer in
    record {
      ends = omega (arith, ticks);
      lacks = λ n lt. let up = count_up f job.release n job.ticks (omega (arith, lt)) in omega (arith, up, fewer);
      has = λ n le lt. absurd (omega (arith, ticks, le, lt));
    }

pub spent : (f : ℕ → Bool) (until : ℕ) (next : Option Word) (job : Job) (fate : Fate) → IsFate f until next job fate
    → IsSpent f until job
spent f until next job (Done at) is =
    let last = is.last in
    let within = is.within in
    let fewer = is.fewer in
    let all = is.all in
    record {
      ends = omega (arith, last, within);
      lacks = λ n lt. let up = count_up f job.release n (job.ticks - 1) (omega (arith, lt)) in omega (arith, up, fewer);
      has = λ n le lt. let up = count_up f job.release job.ticks n le in omega (arith, up, all);
    }
spent f until next job (Dropped by) is = left_spent f until job is.1
spent f until next job Open is = left_spent f until job is.1

-- What became of a job, by the tick by which it was served what it asks for.
use Rattle.std.proofs.Common.{◌≡◌, ℕ, zero, suc, ◌+◌, ◌-◌, ◌<◌, ◌≤◌, Bool, inl, inr, refl, sym}
use Rattle.std.proofs.Common.{subst, arith}
use Rattle.std.specs.Prelude.{nat_le, Option, Some, None, cond}
use Rattle.std.proofs.lemmas.Bool.{cases_Bool, leb-true, leb-false}
use Rattle.hls_chron.specs.Ticks.{count}
use Rattle.hls_chron.proofs.CountLaws.{count-le, count-push, one_if-le}
use Rattle.hls_audit_spans.specs.Spans.{IsReach}
use Rattle.hls_view_jobs.specs.declared.job.Word.{Word}
use Rattle.hls_view_jobs.specs.declared.job.Release.{Release}
use Rattle.hls_view_jobs.specs.declared.job.Fate.TheVariants.{Done}
use Rattle.hls_view_jobs.specs.declared.job.Job.{Job}
use Rattle.hls_view_jobs.specs.Jobs.{IsDone, IsLeft, IsFate, until}
use Rattle.hls_view_jobs.specs.Inside.Sound.{IsRelease, fate_by, fate_left}

count_one_more : (f : ℕ → Bool) (i n : ℕ) → 1 ≤ n → count f i n ≤ count f i (n - 1) + 1
count_one_more f i zero some = absurd (omega (arith, some))
count_one_more f i (suc n) some =
    let same : suc n - 1 ≡ n = omega arith in
    rw same (omega (arith, count-push f i n, one_if-le (f (i + n))))

left_at : (f : ℕ → Bool) (end : ℕ) (next : Option Word) (job : Job) → IsLeft f end job
    → IsFate f end next job (fate_left next)
left_at f end None job left = (refl, left)
left_at f end (Some by) job left = (refl, left)

-- the tick by which it was served what it asks for, or else the end
pub record IsJobUpTo (f : ℕ → Bool) (horizon : ℕ) (r : Release) (job : Job) (reach : ℕ) : Type 0 where
  pub release : job.release ≡ r.tick
  pub asked : job.asked ≡ r.asked
  pub ticks : job.ticks ≡ reach - r.tick
  pub got : job.got ≡ count f r.tick (reach - r.tick)

done_by : (f : ℕ → Bool) (horizon : ℕ) (r : Release) (job : Job) (reach : ℕ) → IsRelease horizon r
    → IsReach f r.tick r.asked (until horizon r) reach → IsJobUpTo f horizon r job reach → r.asked ≤ job.got
    → IsDone f (until horizon r) job (reach - 1)
done_by f horizon r job reach sound reached is all =
    let some : 1 ≤ r.asked = sound.some in
    let begins : r.tick ≤ reach = reached.begins in
    let ends : reach ≤ until horizon r = reached.ends in
    let few = count-le f r.tick (reach - r.tick) in
    let got = is.got in
    let long : 1 ≤ reach - r.tick = omega arith in
    let before : count f r.tick (reach - 1 - r.tick) < r.asked =
    reached.fewer (reach - 1) (omega (arith, long)) (omega (arith, long)) in
    let same : reach - 1 - r.tick ≡ reach - r.tick - 1 = omega arith in
    let fewer : count f r.tick (reach - r.tick - 1) < r.asked =
    subst (λ (n : ℕ). count f r.tick n < r.asked) same before in
    let one = count_one_more f r.tick (reach - r.tick) long in
    let whole : count f r.tick (reach - r.tick) ≡ r.asked = omega arith in
    record {
      last = rw (is.release, is.ticks) (omega (arith, long, begins));
      some = rw is.ticks long;
      within = omega (arith, long, ends);
      fewer = rw (is.release, is.ticks, is.asked) fewer;
      all = rw (is.release, is.ticks, is.asked) whole;
    }

left_by : (f : ℕ → Bool) (horizon : ℕ) (r : Release) (job : Job) (reach : ℕ) → IsRelease horizon r
    → IsReach f r.tick r.asked (until horizon r) reach → IsJobUpTo f horizon r job reach → job.got < r.asked
    → IsLeft f (until horizon r) job
left_by f horizon r job reach sound reached is less =
    let begins : r.tick ≤ reach = reached.begins in
    let ends : reach ≤ until horizon r = reached.ends in
    let got = is.got in
    let never : reach < until horizon r → ⊥ =
    λ early. absurd (let all = reached.all reach (omega arith) early in omega (arith, all, got, less)) in
    let end : reach ≡ until horizon r = omega (arith, never, ends) in
    record {
      ticks = rw (is.release, is.ticks) (omega (arith, begins, end));
      fewer = rw (is.release, is.ticks, is.asked) (omega (arith, got, less));
    }

pub fate_found : (f : ℕ → Bool) (horizon : ℕ) (r : Release) (job : Job) (reach : ℕ) → IsRelease horizon r
    → IsReach f r.tick r.asked (until horizon r) reach → IsJobUpTo f horizon r job reach
    → IsFate f (until horizon r) r.next job (fate_by r reach job.got)
fate_found f horizon r job reach sound reached is = elim (cases_Bool (nat_le r.asked job.got)) [
  | inl reaches ↦
      subst (λ (b : Bool). IsFate f (until horizon r) r.next job (cond b (Done (reach - 1)) (fate_left r.next)))
      (sym reaches)
      (done_by f horizon r job reach sound reached is (leb-true r.asked job.got reaches))
  | inr lacks ↦
      subst (λ (b : Bool). IsFate f (until horizon r) r.next job (cond b (Done (reach - 1)) (fate_left r.next)))
      (sym lacks)
      (left_at f (until horizon r) r.next job
      (left_by f horizon r job reach sound reached is (leb-false r.asked job.got lacks)))
]

-- Work that is dropped, by the fates of jobs.
use Rattle.std.proofs.Common.{◌≡◌, ℕ, ◌+◌, ◌-◌, ◌<◌, ◌≤◌, ◌&&◌, Bool, true, false, refl, sym, ap, ◌∙◌, subst, arith}
use Rattle.std.specs.Prelude.{Option, nat_lt}
use Rattle.std.proofs.lemmas.Bool.{lt-ltb, le-ltb}
use Rattle.hls_text.specs.Lines.{Text}
use Rattle.hls_chron.specs.Ticks.{count}
use Rattle.hls_chron.proofs.CountLaws.{count-within}
use Rattle.hls_report_text.specs.Content.{Content}
use Rattle.hls_legal.specs.Schedule.{is_served}
use Rattle.hls_view_jobs.specs.declared.job.Word.{Word}
use Rattle.hls_view_jobs.specs.declared.job.Release.{Release}
use Rattle.hls_view_jobs.specs.declared.job.Fate.{Fate}
use Rattle.hls_view_jobs.specs.declared.job.Fate.TheVariants.{Done, Dropped, Open}
use Rattle.hls_view_jobs.specs.declared.job.Job.{Job}
use Rattle.hls_view_jobs.specs.Jobs.{IsJob, IsFate, IsDone, IsLeft, until}
use Rattle.hls_view_signs.specs.Happenings.{breaks, is_dropped}
use Rattle.hls_view_signs.specs.Fates.{has_ended_by}

off_right : (a b : Bool) → b ≡ false → (a && b) ≡ false
off_right true b e = e
off_right false b e = refl

on_right : (a b : Bool) → b ≡ true → (a && b) ≡ a
on_right true b e = e
on_right false b e = refl

-- a job that is done was served all that it asked for by any later tick
done_enough : (served : ℕ → Bool) (u : ℕ) (job : Job) (at : ℕ) → IsDone served u job at
    → nat_lt (count served job.release (u - job.release)) job.asked ≡ false
done_enough served u job at is =
    let last = is.last in
    let within = is.within in
    let most : job.release + job.ticks ≤ job.release + (u - job.release) = omega (arith, last, within) in
    let grows = (count-within served job.release (u - job.release) job.release job.ticks (omega arith) most).less in
    le-ltb (count served job.release (u - job.release)) job.asked
    (subst (λ n. n ≤ count served job.release (u - job.release)) is.all grows)

-- one that is left was not
left_short : (served : ℕ → Bool) (u : ℕ) (job : Job) → IsLeft served u job
    → nat_lt (count served job.release (u - job.release)) job.asked ≡ true
left_short served u job is =
    let ticks = is.ticks in
    let same : job.ticks ≡ u - job.release = omega (arith, ticks) in
    lt-ltb (count served job.release (u - job.release)) job.asked
    (subst (λ n. count served job.release n < job.asked) same is.fewer)

by_fate : (served : ℕ → Bool) (t u : ℕ) (next : Option Word) (job : Job) (fate : Fate)
    → IsFate served u next job fate
    → (breaks t next && nat_lt (count served job.release (u - job.release)) job.asked) ≡ has_ended_by t fate
by_fate served t u next job (Done at) is =
    off_right (breaks t next) (nat_lt (count served job.release (u - job.release)) job.asked)
    (done_enough served u job at is)
by_fate served t u next job (Dropped by) is =
    on_right (breaks t next) (nat_lt (count served job.release (u - job.release)) job.asked)
    (left_short served u job is.1) ∙ ap (breaks t) is.0
by_fate served t u next job Open is =
    ap (λ o. breaks t o && nat_lt (count served job.release (u - job.release)) job.asked) is.0

pub drop_is_fate : (c : Content) (t : ℕ) (name : Text) (r : Release) (job : Job) → IsJob c name r job
    → is_dropped c t name r ≡ has_ended_by t job.fate
drop_is_fate c t name r job is =
    let served = is_served c.stretches name in
    let u = until c.horizon r in
    sym (ap (λ n. breaks t r.next && nat_lt (count served r.tick (u - r.tick)) n) is.asked)
    ∙ sym (ap (λ n. breaks t r.next && nat_lt (count served n (u - n)) job.asked) is.release)
    ∙ by_fate served t u r.next job job.fate is.fate

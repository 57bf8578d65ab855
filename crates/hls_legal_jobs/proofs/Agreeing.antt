-- Jobs go by the ticks since the seating alone.
use Rattle.std.proofs.Common.{◌≡◌, ℕ, ◌+◌, ◌*◌, ◌-◌, ◌<◌, ◌≤◌, sym, ◌∙◌, arith, Bool}
use Rattle.hls_chron.specs.Ticks.{count}
use Rattle.hls_chron.proofs.CountLaws.{count-agree}
use Rattle.hls_kinds.specs.declared.reservations.Reservation.{Reservation}
use Rattle.hls_legal_jobs.specs.Jobs.{AsksForJobs, AsksFor, AreInTime}

abbrev pub Agree : (f g : ℕ → Bool) → (lo hi : ℕ) → Type 0
Agree f g lo hi = (t : ℕ) → lo ≤ t → t < hi → f t ≡ g t

pub turned : (f g : ℕ → Bool) (lo hi : ℕ) → Agree f g lo hi → Agree g f lo hi
turned f g lo hi same t from to = sym (same t from to)

module _ (r : Reservation) (periods : ℕ → ℕ) (first : ℕ) (released asks other serves gives : ℕ → Bool) (now : ℕ)
    (one : Agree asks other r.since now) (two : Agree serves gives r.since now) where
  same_count : (w n : ℕ) → r.since ≤ w → w + n ≤ now → count serves w n ≡ count gives w n
  same_count w n from to = count-agree serves gives w n (λ t lo hi. two t (omega arith) (omega arith))

  pub jobs-agree : AsksForJobs r periods first released asks serves now
      → AsksForJobs r periods first released other gives now
  jobs-agree jobs =
      let since = jobs.since in
      record {
        since = since;
        rested = λ t from before to near. sym (one t from to) ∙ jobs.rested t from before to near;
        begins = λ w from to is. sym (one w (omega arith) to) ∙ jobs.begins w from to is;
        apart = jobs.apart;
        goes_on = λ t from to on off.
            let before = jobs.goes_on t from to (one t (omega arith) to ∙ on) off in
            (before.0, sym (one (t - 1) (omega (arith, before.0)) (omega arith)) ∙ before.1);
        small = λ w t to job on.
            let past = job.past in
            let low = job.since in
            let few = jobs.small w t to job (one t (omega arith) to ∙ on) in
            omega (arith, few, same_count w (t - w) (omega arith) (omega arith));
      }

  for-agree : (w m d : ℕ) → r.since ≤ w → (w < w + d → w + d ≤ now)
      → AsksFor first released other gives (w + d) w m → AsksFor first released asks serves (w + d) w m
  for-agree w m d from has for_m = record {
    asks_on = λ t to job few.
        let past = job.past in
        let all = has (omega arith) in
        let within : t < now = omega arith in
        one t (omega arith) within
        ∙ for_m.asks_on t to job (omega (arith, few, same_count w (t - w) from (omega arith)));
  }

  pub in_time-agree : r.since ≤ first → AreInTime r periods first released asks serves now
      → AreInTime r periods first released other gives now
  in_time-agree since good = record {
    known = λ t from to on. good.known t from to (one t (omega arith) to ∙ on);
    soon = λ w t to job on.
        let past = job.past in
        let low = job.since in
        good.soon w t to job (one t (omega arith) to ∙ on);
    early = λ w t p to job on few.
        let past = job.past in
        let low = job.since in
        let fits = good.early w t p to job (one t (omega arith) to ∙ on)
        (omega (arith, few, same_count w (t - w) (omega arith) (omega arith))) in
        omega (arith, fits, same_count w (t + 1 - w) (omega arith) (omega arith));
    done = λ w m p from is within small has for_m.
        let got = good.done w m p from is within small has
        (for-agree w m (p * r.y + m - p * r.x) (omega arith) (λ lt. omega arith) for_m) in
        let same = count-agree serves gives w (p * r.y + m - p * r.x) (λ t lo hi. two t (omega arith) (omega arith)) in
        omega (arith, got, same);
  }

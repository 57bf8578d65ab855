-- The ticks in which a thread is ready by a wake with releases.
use Rattle.std.proofs.Common.{◌≡◌, ℕ, ◌+◌, ◌-◌, ◌<◌, ◌≤◌, Bool, true, inl, inr, List, Some}
use Rattle.std.proofs.Common.{ap, ◌∙◌, arith}
use Rattle.std.specs.Prelude.{nat_lt}
use Rattle.std.proofs.lemmas.Bool.{cases_lt, lt-ltb, le-ltb}
use Rattle.hls_chron.specs.Ticks.{count}
use Rattle.hls_chron.proofs.CountLaws.{count-none}
use Rattle.hls_audit_spans.specs.declared.span.Span.{Span}
use Rattle.hls_audit_spans.specs.Spans.{Tell, IsReach}
use Rattle.hls_audit_spans.proofs.Counts.{count_off}
use Rattle.hls_audit_spans.proofs.Growing.{tell_wider}
use Rattle.hls_releases.specs.Releases.{IsRelease, last_release, is_unserved}
use Rattle.hls_releases.proofs.Releases.{last_upto, last_of, last_is_release, period_ahead, none_between}
use Rattle.hls_releases.proofs.Releases.{next_at_release}
use Rattle.hls_audit_threads.specs.Inside.Lines.{IsReleaseFrom, IsUnused}

-- a release up to a tick is not after the last one
pub last_above : (period since u t : ℕ) → 0 < period → IsRelease period since u → u ≤ t
    → u ≤ last_release (Some period) since t
last_above period since u t some release le = elim (cases_lt (last_release (Some period) since t) u) [
  | inl less ↦
      let early = release.0 in
      let from : since ≤ t = omega (arith, early, le) in
      let last : ℕ = last_release (Some period) since t in
      let here : IsRelease period since last = last_is_release period since t from in
      let ahead : t < last + period = period_ahead period since t from some in
      let next = next_at_release period since last here in
      absurd (none_between period since last u here.0 less (omega (arith, next, ahead, le)) release)
  | inr more ↦ more
]

-- spans tell it up to a tick, and it is ready from there on to a release
pub record IsFilledTo (g : ℕ → Bool) (ready : List Span) (from release : ℕ) : Type 0 where
  pub tell : Tell g ready from
  pub on : (t : ℕ) → from ≤ t → t < release → g t ≡ true

module _ (f : ℕ → Bool) (period ticks since : ℕ) (some : 0 < period) (burst : 0 < ticks) where
  -- a burst of which nothing was served is left
  idle_on : (u t : ℕ) → IsRelease period since u → u ≤ t → IsUnused f u t
      → is_unserved f (Some period) ticks since t ≡ true
  idle_on u t release le unused =
      let early = release.0 in
      let last : ℕ = last_release (Some period) since t in
      let above = last_above period since u t some release le in
      let upto = last_upto (Some period) since t (omega (arith, early, le)) in
      let none : count f last (t - last) ≡ 0 =
      count_off f last (t - last) (λ k lo hi. unused k (omega (arith, above, lo)) (omega (arith, hi, upto))) in
      ap (λ (n : ℕ). nat_lt n ticks) none ∙ lt-ltb 0 ticks burst

  -- before the next release it goes by the ticks served since this one
  burst_here : (u t : ℕ) → IsRelease period since u → u ≤ t → t < u + period
      → is_unserved f (Some period) ticks since t ≡ nat_lt (count f u (t - u)) ticks
  burst_here u t release lo hi =
      ap (λ (n : ℕ). nat_lt (count f n (t - n)) ticks) (last_of period since u t release lo hi)

  module _ (g : ℕ → Bool) (until : ℕ)
      (same : (t : ℕ) → since ≤ t → t < until → g t ≡ is_unserved f (Some period) ticks since t) where
    pub filled_none : (ready : List Span) → Tell g ready since → IsFilledTo g ready since since
    filled_none ready tell = record { tell = tell; on = λ t lo hi. absurd (omega (arith, lo, hi)) }

    -- up to the next served tick
    idle_to : (ready : List Span) (from release next : ℕ) → next ≤ until
        → (release < until → IsRelease period since release) → IsUnused f release next
        → IsFilledTo g ready from release → (t : ℕ) → from ≤ t → t < next → g t ≡ true
    idle_to ready from release next within is unused filled t lo hi = elim (cases_lt t release) [
      | inl before ↦ filled.on t lo before
      | inr after ↦
          let here = is (omega (arith, after, hi, within)) in
          let early = here.0 in
          same t (omega (arith, early, after)) (omega (arith, hi, within))
          ∙ idle_on release t here after (λ k from to. unused k from (omega (arith, to, hi)))
    ]

    -- and on to the tick by which a burst was served
    burst_to : (ready : List Span) (from release used end reach : ℕ)
        → (release < until → IsRelease period since release) → IsReleaseFrom period since release until used
        → IsUnused f release used → end ≤ used + period → end ≤ until → IsReach f used ticks end reach
        → IsFilledTo g ready from release → (t : ℕ) → from ≤ t → t < reach → g t ≡ true
    burst_to ready from release used end reach is next unused soon within reached filled t lo hi =
        elim (cases_lt t used) [
          | inl before ↦
              let early = next.within in
              idle_to ready from release used (omega (arith, early)) is unused filled t lo before
          | inr after ↦
              let ends = reached.ends in
              let begins = next.is.0 in
              same t (omega (arith, begins, after)) (omega (arith, hi, ends, within))
              ∙ burst_here used t next.is after (omega (arith, hi, ends, soon))
              ∙ lt-ltb (count f used (t - used)) ticks (reached.fewer t after hi)
        ]

    pub filled_on : (ready : List Span) (from release used end reach : ℕ)
        → (release < until → IsRelease period since release) → IsReleaseFrom period since release until used
        → IsUnused f release used → end ≤ used + period → end ≤ until → IsReach f used ticks end reach
        → end ≤ reach → IsFilledTo g ready from release → IsFilledTo g ready from end
    filled_on ready from release used end reach is next unused soon within reached whole filled = record {
      tell = filled.tell;
      on = λ t lo hi. burst_to ready from release used end reach is next unused soon within reached filled t lo
          (omega (arith, hi, whole));
    }

    pub filled_more : (ready new : List Span) (from release used end reach : ℕ)
        → (release < until → IsRelease period since release) → IsReleaseFrom period since release until used
        → IsUnused f release used → end ≤ used + period → end ≤ until → IsReach f used ticks end reach
        → (((t : ℕ) → from ≤ t → t < reach → g t ≡ true) → Tell g new reach)
        → IsFilledTo g ready from release → IsFilledTo g new end end
    filled_more ready new from release used end reach is next unused soon within reached grown filled = record {
      tell = tell_wider g new reach end reached.ends
          (λ t lo hi.
          let begins = next.is.0 in
          let far = reached.begins in
          same t (omega (arith, begins, lo, far)) (omega (arith, hi, within))
          ∙ burst_here used t next.is (omega (arith, lo, far)) (omega (arith, hi, soon))
          ∙ le-ltb (count f used (t - used)) ticks (reached.all t lo hi))
          (grown (burst_to ready from release used end reach is next unused soon within reached filled));
      on = λ t lo hi. absurd (omega (arith, lo, hi));
    }

    -- a burst is left in its own tick
    pub burst_begins : (used end reach : ℕ) → used < end → IsReach f used ticks end reach → used < reach
    burst_begins used end reach lt reached = elim (cases_lt used reach) [
      | inl less ↦ less
      | inr past ↦
          let all = reached.all used past lt in
          let zero : used - used ≡ 0 = omega arith in
          let none : count f used (used - used) ≡ 0 = ap (count f used) zero ∙ count-none f used in
          absurd (omega (arith, all, none, burst))
    ]

    pub filled_all : (ready new : List Span) (from release : ℕ)
        → (release < until → IsRelease period since release) → IsUnused f release until
        → (((t : ℕ) → from ≤ t → t < until → g t ≡ true) → Tell g new until)
        → IsFilledTo g ready from release → Tell g new until
    filled_all ready new from release is unused grown filled =
        grown (λ t lo hi. idle_to ready from release until (omega arith) is unused filled t lo hi)

-- The releases of the wakes of a report have jobs.
use Rattle.std.proofs.Common.{◌≡◌, ◌≢◌, ℕ, suc, inl, inr, ◌+◌, ◌*◌, ◌-◌, ◌<◌, ◌≤◌, List, [], ◌∷◌, ◌==◌, ◌&&◌}
use Rattle.std.proofs.Common.{Bool, true, false, cond, refl, sym, ap, ◌∙◌, subst, arith}
use Rattle.std.specs.Prelude.{Option, Some, None, find, reverse, nat_le, nat_lt}
use Rattle.std.proofs.lemmas.Bool.{cases_Bool, cases_lt, eq-eqb, eqb-true}
use Rattle.std.proofs.lemmas.Bool.Decides.{nat_tests}
use Rattle.hls_text.specs.Lines.{Text}
use Rattle.std.proofs.lemmas.Grind.{div_ceil_times}
use Rattle.std.proofs.Math.Nat.{mul-le-mul_right, suc-mul}
use Rattle.hls_chron.specs.Ticks.{count}
use Rattle.hls_chron.proofs.CountLaws.{count-within, count-none}
use Rattle.hls_releases.specs.Releases.{last_release, is_unserved}
use Rattle.hls_releases.proofs.Releases.{last_from, last_upto, last_of_wake}
use Rattle.hls_kinds.specs.declared.reservations.Reservation.{Reservation}
use Rattle.hls_scenario.specs.declared.scenario.Command.{Command}
use Rattle.hls_scenario.specs.declared.scenario.Command.TheVariants.{Load, Thread, End, Unload, Move, Wake, Block}
use Rattle.hls_report_text.specs.declared.report.Answered.{Answered}
use Rattle.hls_report_text.specs.Content.{Content}
use Rattle.hls_legal.specs.Commands.{has_done, rouses, last_rousing}
use Rattle.hls_legal.specs.Schedule.{is_served}
use Rattle.hls_legal.specs.Ready.{lasts, is_awake, is_ready}
use Rattle.hls_legal.proofs.Served.{last_between, last_later}
use Rattle.hls_legal_jobs.specs.Jobs.{IsJobOf, AsksForJobs, AreInTime}
use Rattle.hls_legal_jobs.specs.Reports.{burst_in, every_in, release_of, periods_for, due_in, IsWake, IsReleased}
use Rattle.hls_legal_jobs.specs.Reports.{IsWokenInTurn, IsServedInTime}

-- the last word on a thread
abbrev up_to : (t : ℕ) → (name : Text) → Answered → Bool
up_to t name a = nat_le a.tick t && has_done (rouses name) a

and_left : (a b : Bool) → (a && b) ≡ true → a ≡ true
and_left true b e = refl
and_left false b e = absurd (cc)

and_right : (a b : Bool) → (a && b) ≡ true → b ≡ true
and_right true b e = e
and_right false b e = absurd (cc)

and_both : (a b : Bool) → a ≡ true → b ≡ true → (a && b) ≡ true
and_both true b e f = f
and_both false b e f = absurd (cc)

le_true : (a b : ℕ) → nat_le a b ≡ true → a ≤ b
le_true a b e = grind (arith, nat_tests)

le_is : (a b : ℕ) → a ≤ b → nat_le a b ≡ true
le_is a b e = grind (arith, nat_tests)

find_one : {X : Type 0} (test : X → Bool) (x : X) (xs : List X) → test x ≡ true → find test (x ∷ xs) ≡ Some x
find_one test x xs e = ap (λ b. cond b (Some x) (find test xs)) e

find_next : {X : Type 0} (test : X → Bool) (x : X) (xs : List X) → test x ≡ false
    → find test (x ∷ xs) ≡ find test xs
find_next test x xs e = ap (λ b. cond b (Some x) (find test xs)) e

find_passes : {X : Type 0} (test : X → Bool) (xs : List X) (x : X) → find test xs ≡ Some x → test x ≡ true
find_passes test [] x e = absurd (cc)
find_passes test (y ∷ xs) x e = elim (cases_Bool (test y)) [
  | inl on ↦ let same : y ≡ x = (let both : Some y ≡ Some x = sym (find_one test y xs on) ∙ e in cc) in
      sym (ap test same) ∙ on
  | inr off ↦ find_passes test xs x (sym (find_next test y xs off) ∙ e)
]

-- a test that is true of no more items, but of this one
find_fewer : {X : Type 0} (test other : X → Bool) (xs : List X) (x : X) → ((y : X) → other y ≡ true → test y ≡ true)
    → other x ≡ true → find test xs ≡ Some x → find other xs ≡ Some x
find_fewer test other [] x fewer it e = absurd (cc)
find_fewer test other (y ∷ xs) x fewer it e = elim (cases_Bool (test y)) [
  | inl on ↦
      let same : y ≡ x = (let both : Some y ≡ Some x = sym (find_one test y xs on) ∙ e in cc) in
      find_one other y xs (ap other same ∙ it) ∙ ap (λ z. Some z) same
  | inr off ↦ elim (cases_Bool (other y)) [
    | inl is ↦ let bad = fewer y is in absurd (cc)
    | inr not ↦ find_next other y xs not ∙ find_fewer test other xs x fewer it (sym (find_next test y xs off) ∙ e)
  ]
]

pub rousing_tick : (name : Text) (t : ℕ) (answered : List Answered) (a : Answered)
    → last_rousing name t answered ≡ Some a → a.tick ≤ t
unfolding last_rousing
rousing_tick name t answered a e =
    le_true a.tick t (and_left (nat_le a.tick t) (has_done (rouses name) a)
    (find_passes (up_to t name) (reverse answered) a e))

-- it is the last one already in its tick
pub rousing_between : (name : Text) (t u : ℕ) (answered : List Answered) (a : Answered)
    → last_rousing name t answered ≡ Some a → a.tick ≤ u → u ≤ t → last_rousing name u answered ≡ Some a
unfolding last_rousing
rousing_between name t u answered a e from to =
    let on = find_passes (up_to t name) (reverse answered) a e in
    find_fewer (up_to t name) (up_to u name) (reverse answered) a
    (λ y is. and_both (nat_le y.tick t) (has_done (rouses name) y)
    (le_is y.tick t (let le = le_true y.tick u (and_left (nat_le y.tick u) (has_done (rouses name) y) is) in
    omega arith))
    (and_right (nat_le y.tick u) (has_done (rouses name) y) is))
    (and_both (nat_le a.tick u) (has_done (rouses name) a) (le_is a.tick u from)
    (and_right (nat_le a.tick t) (has_done (rouses name) a) on))
    e

-- a wake for so many ticks
lasts_for : (serves : ℕ → Bool) (since t ticks : ℕ) (command : Command) → burst_in command ≡ Some ticks
    → lasts serves since t command ≡ is_unserved serves (every_in command) ticks since t
lasts_for serves since t ticks (Load name config perches) e = absurd (cc)
lasts_for serves since t ticks (Thread name perch) e = absurd (cc)
lasts_for serves since t ticks (End name) e = absurd (cc)
lasts_for serves since t ticks (Unload name) e = absurd (cc)
lasts_for serves since t ticks (Move name perch) e = absurd (cc)
lasts_for serves since t ticks (Wake name every None) e = absurd (cc)
lasts_for serves since t ticks (Wake name every (Some n)) e =
    let same : n ≡ ticks = cc in ap (λ b. is_unserved serves every b since t) same
lasts_for serves since t ticks (Block name) e = absurd (cc)

ready-at : (c : Content) (name : Text) (t : ℕ) (found : Option Answered) → last_rousing name t c.answered ≡ found
    → is_ready c name t ≡ is_awake (is_served c.stretches name) t found
unfolding is_ready
ready-at c name t found e = ap (is_awake (is_served c.stretches name) t) e

abbrev pub ticks_in : Option ℕ → ℕ
ticks_in None = 0
ticks_in (Some ticks) = ticks

-- the tick has a release of the last word
abbrev pub is_release_of : ℕ → Option Answered → Bool
is_release_of t None = false
is_release_of t (Some a) = release_of a t == t

-- a job is released where the thread is ready in a release of the last word on it
abbrev pub is_release : Content → (name : Text) → ℕ → Bool
is_release c name t = is_ready c name t && is_release_of t (last_rousing name t c.answered)

pub wake_released : (c : Content) (name : Text) (a : Answered) (ticks : ℕ) → IsWake c name a ticks
    → IsReleased c name a.tick a ticks
wake_released c name a ticks wake = record {
  last = wake.last;
  burst = wake.burst;
  at = last_of_wake (every_in a.command) a.tick;
}

-- once, where it is not periodic
pub released_once : (c : Content) (name : Text) (w : ℕ) (a : Answered) (ticks : ℕ) → IsReleased c name w a ticks
    → every_in a.command ≡ None → w ≡ a.tick
released_once c name w a ticks released once =
    sym released.at ∙ ap (λ every. last_release every a.tick w) once

module _ (c : Content) (name : Text) where
  abbrev serves : ℕ → Bool
  serves = is_served c.stretches name

  -- what was served since the last release
  abbrev had : (a : Answered) → (t : ℕ) → ℕ
  had a t = count serves (release_of a t) (t - release_of a t)

  ready_for : (t ticks : ℕ) (a : Answered) → last_rousing name t c.answered ≡ Some a
      → burst_in a.command ≡ Some ticks → is_ready c name t ≡ nat_lt (had a t) ticks
  ready_for t ticks a last burst = ready-at c name t (Some a) last ∙ lasts_for serves a.tick t ticks a.command burst

  fewer_for : (t ticks : ℕ) (a : Answered) → last_rousing name t c.answered ≡ Some a
      → burst_in a.command ≡ Some ticks → is_ready c name t ≡ true → had a t < ticks
  fewer_for t ticks a last burst on =
      let is = sym (ready_for t ticks a last burst) ∙ on in grind (arith, nat_tests)

  ready_while : (t ticks : ℕ) (a : Answered) → last_rousing name t c.answered ≡ Some a
      → burst_in a.command ≡ Some ticks → had a t < ticks → is_ready c name t ≡ true
  ready_while t ticks a last burst few =
      let is : nat_lt (had a t) ticks ≡ true = grind (arith, nat_tests) in
      ready_for t ticks a last burst ∙ is

  -- from a release on, whatever further ones there are, while it was served fewer since then
  pub ready_since : (w t ticks : ℕ) (a : Answered) → IsReleased c name w a ticks → w ≤ t
      → last_rousing name t c.answered ≡ Some a → count serves w (t - w) < ticks → is_ready c name t ≡ true
  ready_since w t ticks a released le last few =
      let early = rousing_tick name w c.answered a released.last in
      let later = last_later (every_in a.command) a.tick t w early le released.at in
      let upto = last_upto (every_in a.command) a.tick t (omega (arith, early, le)) in
      let less = (count-within serves w (t - w) (release_of a t) (t - release_of a t) later
      (omega (arith, upto, le))).less in
      ready_while t ticks a last released.burst (omega (arith, less, few))

  pub ready_at_release : (w ticks : ℕ) (a : Answered) → IsReleased c name w a ticks → 0 < ticks
      → is_ready c name w ≡ true
  ready_at_release w ticks a released some =
      let none : w - w ≡ 0 = omega arith in
      let at_once : count serves w (w - w) ≡ 0 = ap (count serves w) none ∙ count-none serves w in
      ready_since w w ticks a released (omega arith) released.last (omega (arith, at_once))

  -- ready by a wake, it is so since the last release of that
  released_at : (t ticks : ℕ) (a : Answered) → last_rousing name t c.answered ≡ Some a
      → burst_in a.command ≡ Some ticks → IsReleased c name (release_of a t) a ticks
  released_at t ticks a last burst =
      let early = rousing_tick name t c.answered a last in
      let upto = last_upto (every_in a.command) a.tick t early in
      record {
        last = rousing_between name t (release_of a t) c.answered a last
            (last_from (every_in a.command) a.tick t early) upto;
        burst = burst;
        at = last_between (every_in a.command) a.tick t (release_of a t) early (omega arith) upto;
      }

  starts_at : (w ticks : ℕ) (a : Answered) → IsReleased c name w a ticks → is_ready c name w ≡ true
      → is_release c name w ≡ true
  starts_at w ticks a released on =
      and_both (is_ready c name w) (is_release_of w (last_rousing name w c.answered)) on
      (ap (is_release_of w) released.last ∙ eq-eqb (release_of a w) w released.at)

  released_then : (t ticks : ℕ) (a : Answered) → last_rousing name t c.answered ≡ Some a
      → burst_in a.command ≡ Some ticks → is_ready c name t ≡ true → is_release c name (release_of a t) ≡ true
  released_then t ticks a last burst on =
      let few = fewer_for t ticks a last burst on in
      let released = released_at t ticks a last burst in
      starts_at (release_of a t) ticks a released
      (ready_at_release (release_of a t) ticks a released (omega (arith, few)))

  release_tick : (t u : ℕ) (a : Answered) → last_rousing name t c.answered ≡ Some a → a.tick ≤ u → u ≤ t
      → is_release c name u ≡ true → release_of a u ≡ u
  release_tick t u a last from to is =
      let here = rousing_between name t u c.answered a last from to in
      eqb-true (release_of a u) u (sym (ap (is_release_of u) here)
      ∙ and_right (is_ready c name u) (is_release_of u (last_rousing name u c.answered)) is)

  -- between the last release of the last word and this tick there is none
  none_since : (t u : ℕ) (a : Answered) → last_rousing name t c.answered ≡ Some a → release_of a t < u → u ≤ t
      → is_release c name u ≡ true → ⊥
  none_since t u a last after to is =
      let early = rousing_tick name t c.answered a last in
      let from = last_from (every_in a.command) a.tick t early in
      let at = release_tick t u a last (omega (arith, from, after)) to is in
      let same = last_between (every_in a.command) a.tick t u early (omega (arith, after)) to in
      omega (arith, at, same, after)

-- the budgets of the periods of so many ticks are enough for them
enough : (r : Reservation) (ticks : ℕ) → 0 < r.x → ticks ≤ periods_for r ticks * r.x
enough r ticks wide = (div_ceil_times ticks r.x wide).0

-- and for fewer ticks there are no more periods
fewer_periods : (r : Reservation) (few many : ℕ) → 0 < r.x → few ≤ many → periods_for r few ≤ periods_for r many
fewer_periods r few many wide le = elim (cases_lt (periods_for r many) (periods_for r few)) [
  | inr more ↦ more
  | inl less ↦
      let rounds = (div_ceil_times few r.x wide).1 in
      let held = enough r many wide in
      let next : suc (periods_for r many) * r.x ≤ periods_for r few * r.x = mul-le-mul_right r.x less in
      let one = suc-mul (periods_for r many) r.x in
      absurd (omega arith)
]

pub one_period : (r : Reservation) (ticks : ℕ) → 0 < ticks → ticks ≤ r.x
    → (periods_for r ticks ≡ 1) × (due_in r ticks ≡ r.y + ticks - r.x)
one_period r ticks some small =
    let rounds = div_ceil_times ticks r.x (omega arith) in
    let one : periods_for r ticks ≡ 1 = elim (cases_lt (periods_for r ticks) 1) [
      | inl none ↦
          let nothing : periods_for r ticks * r.x ≤ 0 * r.x = mul-le-mul_right r.x (omega arith) in
          absurd (omega (arith, rounds.0))
      | inr some_one ↦ elim (cases_lt 1 (periods_for r ticks)) [
        | inl two ↦
            let more : 2 * r.x ≤ periods_for r ticks * r.x = mul-le-mul_right r.x two in
            absurd (omega (arith, rounds.1))
        | inr to ↦ omega arith
      ]
    ] in
    let long : periods_for r ticks * r.y ≡ r.y = ap (λ (k : ℕ). k * r.y) one ∙ omega arith in
    let wide : periods_for r ticks * r.x ≡ r.x = ap (λ (k : ℕ). k * r.x) one ∙ omega arith in
    (one, omega arith)

-- for how many ticks the last wake is
abbrev pub ticks_of : Option Answered → ℕ
ticks_of None = 0
ticks_of (Some a) = ticks_in (burst_in a.command)

abbrev pub periods_at : Content → (name : Text) → Reservation → ℕ → ℕ
periods_at c name r w = periods_for r (ticks_of (last_rousing name w c.answered))

module _ (c : Content) (name : Text) (r : Reservation) (first until : ℕ) (wide : 0 < r.x)
    (turn : IsWokenInTurn c name r first until) where
  -- the job of a tick is released by the last release
  same_job : (w t ticks : ℕ) (a : Answered) → IsJobOf first (is_release c name) w t → is_ready c name t ≡ true
      → last_rousing name t c.answered ≡ Some a → burst_in a.command ≡ Some ticks → first ≤ release_of a t
      → release_of a t ≡ w
  same_job w t ticks a job on last burst since =
      let early = rousing_tick name t c.answered a last in
      let from = last_from (every_in a.command) a.tick t early in
      let upto = last_upto (every_in a.command) a.tick t early in
      let is = released_then c name t ticks a last burst on in
      elim (cases_lt w (release_of a t)) [
        | inl later ↦ let off = job.last (release_of a t) later upto in absurd (cc)
        | inr to ↦
            let at = release_tick c name t w a last (omega (arith, from, to)) job.past job.starts in
            let same = last_between (every_in a.command) a.tick t w early to job.past in
            omega (arith, at, same)
      ]

  -- a release has its periods
  periods_of : (w ticks : ℕ) (a : Answered) → IsReleased c name w a ticks
      → periods_at c name r w ≡ periods_for r ticks
  periods_of w ticks a released =
      ap (λ o. periods_for r (ticks_of o)) released.last ∙ ap (λ o. periods_for r (ticks_in o)) released.burst

  record IsReleasedThere (w : ℕ) : Type 0 where
    pub by : Answered
    pub ticks : ℕ
    pub released : IsReleased c name w by ticks

  released_there : (w : ℕ) → first ≤ w → w < until → is_release c name w ≡ true → IsReleasedThere w
  released_there w from to is =
      let on = and_left (is_ready c name w) (is_release_of w (last_rousing name w c.answered)) is in
      let by = turn.counted w from to on in
      record {
        by = by.by;
        ticks = by.ticks;
        released = record {
          last = by.last;
          burst = by.burst;
          at = release_tick c name w w by.by by.last (rousing_tick name w c.answered by.by by.last) (omega arith) is;
        };
      }

  apart_at : (w v : ℕ) → IsReleasedThere w → IsReleasedThere v → first ≤ w → w < v → v < until
      → w + periods_at c name r w * r.y ≤ v
  apart_at w v a b from between to =
      let gap = turn.apart w v a.by b.by a.ticks b.ticks from between to a.released b.released in
      let same = periods_of w a.ticks a.by a.released in
      let long : periods_at c name r w * r.y ≡ periods_for r a.ticks * r.y = ap (λ (k : ℕ). k * r.y) same in
      omega (arith, gap, long)

  -- in a ready tick that is no release, the thread was ready in the tick before
  ready_before : (t : ℕ) → first ≤ t → t < until → is_ready c name t ≡ true → is_release c name t ≡ false
      → (first < t) × (is_ready c name (t - 1) ≡ true)
  ready_before t from to on off =
      let by = turn.counted t from to on in
      let released = released_at c name t by.ticks by.by by.last by.burst in
      let early = rousing_tick name t c.answered by.by by.last in
      let low = last_from (every_in by.by.command) by.by.tick t early in
      let upto = last_upto (every_in by.by.command) by.by.tick t early in
      let w : ℕ = release_of by.by t in
      let apart : w ≢ t = λ e.
      (let is : is_release_of t (last_rousing name t c.answered) ≡ true =
      ap (is_release_of t) by.last ∙ eq-eqb w t e in
      let both = and_both (is_ready c name t) (is_release_of t (last_rousing name t c.answered)) on is in cc) in
      let since = by.since in
      let few = fewer_for c name t by.ticks by.by by.last by.burst on in
      let less = (count-within (is_served c.stretches name) w (t - w) w (t - 1 - w) (omega arith)
      (omega (arith, upto, apart))).less in (
        omega (arith, since, upto, apart),
        ready_since c name w (t - 1) by.ticks by.by released (omega (arith, upto, apart))
            (rousing_between name t (t - 1) c.answered by.by by.last (omega (arith, low, upto, apart))
            (omega arith))
            (omega (arith, less, few)),
      )

  pub jobs_are_woken : AsksForJobs r (periods_at c name r) first (is_release c name) (is_ready c name)
      (is_served c.stretches name) until
  jobs_are_woken = record {
    since = turn.since;
    rested = turn.rested;
    begins = λ w from to is. and_left (is_ready c name w) (is_release_of w (last_rousing name w c.answered)) is;
    apart = λ w v from between to one two.
        apart_at w v (released_there w from (omega arith) one) (released_there v (omega arith) to two) from between to;
    goes_on = ready_before;
    small = λ w t to job on.
        let by = turn.counted t (omega (arith, job.since, job.past)) to on in
        let at = same_job w t by.ticks by.by job on by.last by.burst by.since in
        let few = fewer_for c name t by.ticks by.by by.last by.burst on in
        let here = subst (λ u. count (is_served c.stretches name) u (t - u) < by.ticks) at few in
        let released = subst (λ u. IsReleased c name u by.by by.ticks) at
        (released_at c name t by.ticks by.by by.last by.burst) in
        let same = periods_of w by.ticks by.by released in
        let all = enough r by.ticks wide in
        rw same (omega arith);
  }

  -- of each ready tick
  job_of : (t : ℕ) (a : Answered) → first ≤ t → t < until → is_ready c name t ≡ true
      → last_rousing name t c.answered ≡ Some a → IsJobOf first (is_release c name) (release_of a t) t
  job_of t a from to on last =
      let by = turn.counted t from to on in
      let same : by.by ≡ a = (let both : Some by.by ≡ Some a = sym by.last ∙ last in cc) in
      let is = released_then c name t by.ticks by.by by.last by.burst on in
      record {
        since = rw same at by.since;
        past = last_upto (every_in a.command) a.tick t (rousing_tick name t c.answered a last);
        starts = rw same at is;
        last = λ u after before. elim (cases_Bool (is_release c name u)) [
          | inl again ↦ absurd (none_since c name t u a last after before again)
          | inr not ↦ not
        ];
      }

  pub served_in_time : AreInTime r (periods_at c name r) first (is_release c name) (is_ready c name)
      (is_served c.stretches name) until → IsServedInTime c name r first until
  served_in_time good = record {
    soon = λ t a m from to on last burst.
        let same = periods_of (release_of a t) m a (released_at c name t m a last burst) in
        rw same at (good.soon (release_of a t) t to (job_of t a from to on last) on);
    done = λ w a m n from released few has words. elim (cases_lt 0 n) [
      | inr none ↦ omega arith
      | inl some ↦
          let ready = ready_at_release c name w m a released (omega arith) in
          let starts = starts_at c name w m a released ready in
          let same = periods_of w m a released in
          let within : periods_for r n ≤ periods_at c name r w = rw same (fewer_periods r n m wide few) in
          let wake_words : (t : ℕ) → t < w + due_in r n → IsJobOf first (is_release c name) w t
          → count (is_served c.stretches name) w (t - w) < n → is_ready c name t ≡ true =
          λ t to job less. ready_since c name w t m a released job.past (words t job.past to) (omega arith) in
          good.done w n (periods_for r n) from starts within (enough r n wide) (omega arith)
          (record { asks_on = wake_words })
    ];
  }

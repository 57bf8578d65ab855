-- What is kept of one wake, as ticks elapse and its releases come.
use Rattle.std.proofs.Common.{◌≡◌, ℕ, inl, inr, ◌+◌, ◌-◌, ◌<◌, ◌≤◌, Bool, true, false, cond}
use Rattle.std.proofs.Common.{refl, sym, ap, ◌∙◌, arith, subst}
use Rattle.std.specs.Prelude.{Option, Some, None, nat_lt, nat_le, option_map}
use Rattle.std.proofs.lemmas.Bool.{cases_lt, eq-eqb, ne_eqb, lt-ltb, le-ltb, lt-leb, le-leb}
use Rattle.hls_chron.specs.Ticks.{count}
use Rattle.hls_chron.proofs.CountLaws.{count-none}
use Rattle.hls_releases.specs.Releases.{last_release, next_release, is_unserved}
use Rattle.hls_releases.proofs.Releases.{last_upto, last_before_next, last_at_next, last_of_wake, next_stays}
use Rattle.hls_releases.proofs.Releases.{next_above, unserved_at_last, unserved_at_wake}
use Rattle.hls_scenario.specs.Grammar.{IsWaking}
use Rattle.hls_machine.specs.Hierarchy.{Node, Thread, Loaded, Admitted, Wake, Asleep, Awake, Awake_for, is_ready}
use Rattle.hls_core_stays.proofs.Ticked.{times}
use Rattle.hls_core.specs.Begun.{left_by, next_by, used, released, released_next, is_due, ends_within, begun_by}
use Rattle.hls_core.specs.Begun.{release_by}
use Rattle.hls_core.specs.Left.{release_of, coming, IsFit, IsKept, IsLeftOf}
use Rattle.hls_core.specs.declared.begun.Begun.{Begun}
use Rattle.hls_core.specs.declared.begun.Release.{Release}

-- ---- releases of a burst

abbrev pub used_if : Bool → (ticks : ℕ) → Option Begun → Option Begun
used_if on ticks begun = cond on (used ticks begun) begun

pub used_next : (on : Bool) (ticks : ℕ) (begun : Option Begun) → next_by (used_if on ticks begun) ≡ next_by begun
used_next true ticks None = refl
used_next true ticks (Some begun) = refl
used_next false ticks begun = refl

pub used_left : (on : Bool) (ticks : ℕ) (begun : Option Begun)
    → left_by (used_if on ticks begun) ≡ cond on (option_map (λ left. left - ticks) (left_by begun)) (left_by begun)
used_left true ticks None = refl
used_left true ticks (Some begun) = refl
used_left false ticks begun = refl

-- without a release in this tick a burst is as it was
pub undue : (now : ℕ) (begun : Option Begun) → is_due now (next_by begun) ≡ false → released now begun ≡ begun
undue now None off = refl
undue now (Some begun) off = by begun.next off
  where
    by : (next : Option Release) → is_due now next ≡ false → Some (released_next now next begun) ≡ Some begun
    by None off = refl
    by (Some release) off =
        ap (λ b. Some (cond b (record {
          left = release.burst;
          next = Some (record release { tick = release.tick + release.every });
        }) begun)) off

-- and with one it is whole
pub renewed : (now : ℕ) (begun : Option Begun) (release : Release) → next_by begun ≡ Some release
    → release.tick ≡ now → released now begun ≡ Some (record {
      left = release.burst;
      next = Some (record release { tick = release.tick + release.every });
    })
renewed now None release next tick = absurd (cc)
renewed now (Some begun) release next tick =
    ap (λ o. Some (released_next now o begun)) next
    ∙ ap (λ b. Some (cond b (record {
      left = release.burst;
      next = Some (record release { tick = release.tick + release.every });
    }) begun)) (eq-eqb release.tick now tick)

-- ---- ticks

module _ (was serves : ℕ → Bool) (now later n : ℕ) (on : Bool) (at : later ≡ now + n)
    (counted : (from : ℕ) → from ≤ now → count serves from (later - from) ≡ count was from (now - from) + times on n)
  where
    -- what is left of the burst that began in a tick
    left_on : (from ticks : ℕ) → from ≤ now
        → ticks - count serves from (later - from)
        ≡ cond on (ticks - count was from (now - from) - n) (ticks - count was from (now - from))
    left_on from ticks le = by on (counted from le)
      where
        by : (b : Bool) → count serves from (later - from) ≡ count was from (now - from) + times b n
            → ticks - count serves from (later - from)
            ≡ cond b (ticks - count was from (now - from) - n) (ticks - count was from (now - from))
        by true more = omega (arith, more)
        by false more = omega (arith, more)

    ready_on : (from ticks : ℕ) → from ≤ now
        → nat_lt (count serves from (later - from)) ticks
        ≡ cond on (cond (nat_le (ticks - count was from (now - from)) n) false
        (nat_lt (count was from (now - from)) ticks)) (nat_lt (count was from (now - from)) ticks)
    ready_on from ticks le = by on (counted from le)
      where
        by : (b : Bool) → count serves from (later - from) ≡ count was from (now - from) + times b n
            → nat_lt (count serves from (later - from)) ticks
            ≡ cond b (cond (nat_le (ticks - count was from (now - from)) n) false
            (nat_lt (count was from (now - from)) ticks)) (nat_lt (count was from (now - from)) ticks)
        by true more =
            let c : ℕ = count was from (now - from) in
            let d : ℕ = count serves from (later - from) in
            let next : d ≡ c + n = more in
            elim (cases_lt d ticks) [
              | inl less ↦ lt-ltb d ticks less
                  ∙ sym (ap (λ b. cond b false (nat_lt c ticks)) (lt-leb (ticks - c) n (omega (arith, less, next)))
                  ∙ lt-ltb c ticks (omega (arith, less, next)))
              | inr whole ↦ le-ltb d ticks whole
                  ∙ sym (ap (λ b. cond b false (nat_lt c ticks)) (le-leb (ticks - c) n (omega (arith, whole, next))))
            ]
        by false more = ap (λ m. nat_lt m ticks) (omega (arith, more))

    -- what a flag says after the ticks: a release makes ready, and a burst that was served to its end makes not ready
    abbrev flag_after : (begun : Option Begun) → (flag : Bool) → Bool
    flag_after begun flag =
        cond (is_due later (next_by begun)) true (cond on (cond (ends_within n (left_by begun)) false flag) flag)

    -- what is kept of a wake after the ticks and the releases in the last of them
    pub record GoesOn (begun : Option Begun) (wake : Wake) : Type 0 where
      pub kept : IsKept serves later (released later (used_if on n begun)) wake
      pub ready : is_ready serves later wake ≡ flag_after begun (is_ready was now wake)

    -- a wake without a release in the ticks
    held : (every : Option ℕ) (ticks since : ℕ) (begun : Option Begun)
        → IsKept was now begun (Awake_for (record { ticks = ticks; every = every }) since)
        → (on ≡ true → is_ready was now (Awake_for (record { ticks = ticks; every = every }) since) ≡ true)
        → last_release every since later ≡ last_release every since now
        → release_of later (Awake_for (record { ticks = ticks; every = every }) since)
        ≡ release_of now (Awake_for (record { ticks = ticks; every = every }) since)
        → is_due later (next_by begun) ≡ false
        → GoesOn begun (Awake_for (record { ticks = ticks; every = every }) since)
    held every ticks since begun kept ran last next off =
        let from : ℕ = last_release every since now in
        let le : from ≤ now = last_upto every since now kept.fits.0 in
        let same : released later (used_if on n begun) ≡ used_if on n begun =
        undue later (used_if on n begun) (ap (is_due later) (used_next on n begun) ∙ off) in
        let ready : is_unserved serves every ticks since later
        ≡ cond on (cond (nat_le (ticks - count was from (now - from)) n) false (is_unserved was every ticks since now))
        (is_unserved was every ticks since now) =
        ap (λ u. nat_lt (count serves u (later - u)) ticks) last ∙ ready_on from ticks le in
        record {
          kept = record {
            left = λ on_ready.
                ap left_by same ∙ used_left on n begun
                ∙ held_left on (is_unserved was every ticks since now) refl ran
                (ticks - count was from (now - from)) (left_by begun) kept.left (sym ready ∙ on_ready)
                ∙ ap (λ m. Some m) (sym (ap (λ u. ticks - count serves u (later - u)) last ∙ left_on from ticks le));
            next = ap next_by same ∙ used_next on n begun ∙ kept.next ∙ sym next;
            fits = (let early = kept.fits.0 in omega (arith, early, at), kept.fits.1);
          };
          ready =
              ready
              ∙ held_ready on (is_unserved was every ticks since now) refl ran
              (ticks - count was from (now - from)) (left_by begun) kept.left
              ∙ sym (ap (λ b. cond b true (cond on (cond (ends_within n (left_by begun)) false
              (is_unserved was every ticks since now)) (is_unserved was every ticks since now))) off);
        }
      where
        -- what is left where the thread is ready after the ticks
        held_left : (b flag : Bool) → is_unserved was every ticks since now ≡ flag → (b ≡ true → flag ≡ true)
            → (rest : ℕ) (left : Option ℕ) → (flag ≡ true → left ≡ Some rest)
            → cond b (cond (nat_le rest n) false flag) flag ≡ true
            → cond b (option_map (λ left. left - n) left) left ≡ Some (cond b (rest - n) rest)
        held_left true flag is ran rest left has ready = ap (option_map (λ left. left - n)) (has (ran refl))
        held_left false flag is ran rest left has ready = has ready

        held_ready : (b flag : Bool) → is_unserved was every ticks since now ≡ flag → (b ≡ true → flag ≡ true)
            → (rest : ℕ) (left : Option ℕ) → (flag ≡ true → left ≡ Some rest)
            → cond b (cond (nat_le rest n) false flag) flag ≡ cond b (cond (ends_within n left) false flag) flag
        held_ready true flag is ran rest left has =
            ap (λ o. cond (ends_within n o) false flag) (sym (has (ran refl)))
        held_ready false flag is ran rest left has = refl

    -- a wake with one in the last of them
    come : (period ticks since : ℕ) (begun : Option Begun)
        → IsKept was now begun (Awake_for (record { ticks = ticks; every = Some period }) since)
        → next_release period since now ≡ later
        → GoesOn begun (Awake_for (record { ticks = ticks; every = Some period }) since)
    come period ticks since begun kept tick =
        let release : Release =
        record { tick = next_release period since now; burst = ticks; every = period } in
        let whole = renewed later (used_if on n begun) release (used_next on n begun ∙ kept.next) tick in
        let last : last_release (Some period) since later ≡ later =
        ap (last_release (Some period) since) (sym tick) ∙ last_at_next period since now kept.fits.0 ∙ tick in
        let some : 0 < ticks = let within = kept.fits.1.2.0 in omega (arith, within) in
        record {
          kept = record {
            left = λ ready.
                ap left_by whole
                ∙ ap (λ m. Some m) (sym (let none : later - last_release (Some period) since later ≡ 0 =
                omega (arith, last) in let zero = ap (count serves (last_release (Some period) since later)) none
                ∙ count-none serves (last_release (Some period) since later) in omega (arith, zero)));
            next =
                ap next_by whole
                ∙ ap (λ u. Some (record { tick = u; burst = ticks; every = period }))
                (let more : next_release period since now + period ≡ next_release period since later =
                omega (arith, last, tick) in more);
            fits = (let early = kept.fits.0 in omega (arith, early, at), kept.fits.1);
          };
          ready =
              unserved_at_last serves (Some period) ticks since later last some
              ∙ sym (ap (λ b. cond b true (cond on (cond (ends_within n (left_by begun)) false
              (is_unserved was (Some period) ticks since now)) (is_unserved was (Some period) ticks since now)))
              (ap (is_due later) kept.next ∙ eq-eqb (next_release period since now) later tick));
        }

    by_burst : (every : Option ℕ) (ticks since : ℕ) (begun : Option Begun)
        → IsKept was now begun (Awake_for (record { ticks = ticks; every = every }) since)
        → (on ≡ true → is_ready was now (Awake_for (record { ticks = ticks; every = every }) since) ≡ true)
        → ((release : Release) → next_by begun ≡ Some release → later ≤ release.tick)
        → GoesOn begun (Awake_for (record { ticks = ticks; every = every }) since)
    by_burst None ticks since begun kept ran ahead =
        held None ticks since begun kept ran refl refl (ap (is_due later) kept.next)
    by_burst (Some period) ticks since begun kept ran ahead =
        let le = ahead (record { tick = next_release period since now; burst = ticks; every = period }) kept.next in
        elim (cases_lt later (next_release period since now)) [
          | inl before ↦
              held (Some period) ticks since begun kept ran
              (last_before_next period since now later kept.fits.0 (omega (arith, at)) before)
              (ap (λ u. Some (record { tick = u; burst = ticks; every = period }))
              (next_stays period since now later kept.fits.0 (omega (arith, at)) before))
              (ap (is_due later) kept.next
              ∙ ne_eqb (next_release period since now) later (λ same. (omega (arith, same, before))))
          | inr here ↦ come period ticks since begun kept (omega (arith, here, le))
        ]

    no_next : (begun : Option Begun) → next_by begun ≡ None → released later (used_if on n begun) ≡ used_if on n begun
    no_next begun none =
        undue later (used_if on n begun) (ap (is_due later) (used_next on n begun ∙ none))

    pub goes_on : (begun : Option Begun) (wake : Wake) → IsKept was now begun wake
        → (on ≡ true → is_ready was now wake ≡ true)
        → ((release : Release) → next_by begun ≡ Some release → later ≤ release.tick) → GoesOn begun wake
    goes_on begun Asleep kept ran ahead = record {
      kept = record {
        left = λ ready. absurd (cc);
        next = ap next_by (no_next begun kept.next) ∙ used_next on n begun ∙ kept.next;
        fits = tt;
      };
      ready =
          asleep on ran
          ∙ sym (ap (λ b. cond b true (cond on (cond (ends_within n (left_by begun)) false false) false))
          (ap (is_due later) kept.next));
    }
      where
        asleep : (b : Bool) → (b ≡ true → false ≡ true)
            → false ≡ cond b (cond (ends_within n (left_by begun)) false false) false
        asleep true ran = absurd (let no_one = ran refl in cc)
        asleep false ran = refl
    goes_on begun Awake kept ran ahead = record {
      kept = record {
        left = λ ready.
            ap left_by (no_next begun kept.next) ∙ used_left on n begun ∙ rest on (left_by begun) (kept.left refl);
        next = ap next_by (no_next begun kept.next) ∙ used_next on n begun ∙ kept.next;
        fits = tt;
      };
      ready =
          awake on (left_by begun) (kept.left refl)
          ∙ sym (ap (λ b. cond b true (cond on (cond (ends_within n (left_by begun)) false true) true))
          (ap (is_due later) kept.next));
    }
      where
        rest : (b : Bool) (left : Option ℕ) → left ≡ None → cond b (option_map (λ left. left - n) left) left ≡ None
        rest true left none = ap (option_map (λ left. left - n)) none
        rest false left none = none

        awake : (b : Bool) (left : Option ℕ) → left ≡ None → true ≡ cond b (cond (ends_within n left) false true) true
        awake true left none = sym (ap (λ o. cond (ends_within n o) false true) none)
        awake false left none = refl
    goes_on begun (Awake_for burst since) kept ran ahead =
        by_burst burst.every burst.ticks since begun kept ran ahead

-- ---- wakes

-- what a wake begins is kept of it
pub wake_kept : (serves : ℕ → Bool) (now : ℕ) (every : Option ℕ) (ticks : ℕ) → IsWaking 2 every (Some ticks)
    → IsKept serves now (begun_by every (Some ticks) now) (Awake_for (record { ticks = ticks; every = every }) now)
wake_kept serves now every ticks waking = record {
  left = λ ready.
      ap (λ m. Some m) (sym (let last = last_of_wake every now in
      let none : now - last_release every now now ≡ 0 = omega (arith, last) in
      let zero = ap (count serves (last_release every now now)) none ∙ count-none serves (last_release every now now) in
      omega (arith, zero)));
  next = by every;
  fits = (omega arith, waking);
}
  where
    by : (every : Option ℕ) → release_by every ticks now
        ≡ release_of now (Awake_for (record { ticks = ticks; every = every }) now)
    by None = refl
    by (Some period) =
        let last = last_of_wake (Some period) now in
        ap (λ u. Some (record { tick = u; burst = ticks; every = period }))
        (let same : now + period ≡ next_release period now now = omega (arith, last) in same)

pub wake_ready : (serves : ℕ → Bool) (now : ℕ) (every : Option ℕ) (ticks : ℕ) → IsWaking 2 every (Some ticks)
    → is_ready serves now (Awake_for (record { ticks = ticks; every = every }) now) ≡ true
wake_ready serves now every ticks waking = unserved_at_wake serves every ticks now (some every waking)
  where
    some : (every : Option ℕ) → IsWaking 2 every (Some ticks) → 0 < ticks
    some None is = let within = is.0 in omega (arith, within)
    some (Some period) is = let within = is.2.0 in omega (arith, within)

pub coming_is : (now : ℕ) (wake : Wake)
    → option_map (λ (release : Release). release.tick) (release_of now wake) ≡ coming now wake
coming_is now Asleep = refl
coming_is now Awake = refl
coming_is now (Awake_for burst since) = by burst.every
  where
    by : (every : Option ℕ) → option_map (λ (release : Release). release.tick)
        (release_of now (Awake_for (record { ticks = burst.ticks; every = every }) since))
        ≡ coming now (Awake_for (record { ticks = burst.ticks; every = every }) since)
    by None = refl
    by (Some period) = refl

-- a release that is kept of a wake comes later, and its numbers are small
pub record IsSmall (now : ℕ) (release : Release) : Type 0 where
  pub later : now < release.tick
  pub every : release.every ≤ 100000

pub release_small : (now : ℕ) (wake : Wake) (release : Release) → IsFit now wake
    → release_of now wake ≡ Some release → IsSmall now release
release_small now Asleep release fits is = absurd (cc)
release_small now Awake release fits is = absurd (cc)
release_small now (Awake_for burst since) release fits is = by burst.every fits.1 is
  where
    by : (every : Option ℕ) → IsWaking 2 every (Some burst.ticks)
        → release_of now (Awake_for (record { ticks = burst.ticks; every = every }) since) ≡ Some release
        → IsSmall now release
    by None waking is = absurd (cc)
    by (Some period) waking is =
        let same : (record { tick = next_release period since now; burst = burst.ticks; every = period }) ≡ release =
        cc in
        let within = waking.1 in
        let some = within.0 in
        let few = within.1 in
        subst (IsSmall now) same (record {
          later = next_above period since now fits.0 (omega (arith, some));
          every = few;
        })

-- what is kept of a node has such numbers
pub next_small : (serves : ℕ → Bool) (now : ℕ) (begun : Option Begun) (node : Option Node) (release : Release)
    → IsLeftOf serves now begun node → next_by begun ≡ Some release → IsSmall now release
next_small serves now begun None release is e = absurd (let none = is in cc)
next_small serves now begun (Some (Loaded s)) release is e = absurd (let none = is in cc)
next_small serves now begun (Some (Admitted t)) release is e =
    release_small now t.wake release is.fits (sym is.next ∙ e)

-- and is that of a thread
pub record IsComing (now : ℕ) (node : Option Node) (tick : ℕ) : Type 0 where
  pub thread : Thread
  pub there : node ≡ Some (Admitted thread)
  pub comes : coming now thread.wake ≡ Some tick

pub next_coming : (serves : ℕ → Bool) (now : ℕ) (begun : Option Begun) (node : Option Node) (release : Release)
    → IsLeftOf serves now begun node → next_by begun ≡ Some release → IsComing now node release.tick
next_coming serves now begun None release is e = absurd (let none = is in cc)
next_coming serves now begun (Some (Loaded s)) release is e = absurd (let none = is in cc)
next_coming serves now begun (Some (Admitted t)) release is e = record {
  thread = t;
  there = refl;
  comes =
      sym (coming_is now t.wake) ∙ ap (option_map (λ (r : Release). r.tick)) (sym is.next ∙ e);
}

-- and the other way round
pub record IsNextOf (begun : Option Begun) (tick : ℕ) : Type 0 where
  pub release : Release
  pub next : next_by begun ≡ Some release
  pub tick_is : release.tick ≡ tick

pub coming_next : (serves : ℕ → Bool) (now : ℕ) (begun : Option Begun) (wake : Wake) (tick : ℕ)
    → IsKept serves now begun wake → coming now wake ≡ Some tick → IsNextOf begun tick
coming_next serves now begun wake tick is e =
    by (release_of now wake) is.next (coming_is now wake ∙ e)
  where
    by : (o : Option Release) → next_by begun ≡ o → option_map (λ (r : Release). r.tick) o ≡ Some tick
        → IsNextOf begun tick
    by None next e = absurd (cc)
    by (Some release) next e =
        record { release = release; next = next; tick_is = (let same : release.tick ≡ tick = cc in same) }

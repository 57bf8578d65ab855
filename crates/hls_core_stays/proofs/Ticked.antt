-- Tallies after ticks.
use Rattle.std.proofs.Common.{◌≡◌, ℕ, zero, suc, ◌+◌, ◌-◌, ◌≤◌, List, Bool, true, false}
use Rattle.std.proofs.Common.{refl, sym, ap, ◌∙◌, subst, arith, is_some, is_none}
use Rattle.std.specs.Prelude.{Option, Some, None, slice_get, slice_set}
use Rattle.std.proofs.lemmas.Bool.{ne_eqb}
use Rattle.hls_chron.specs.Ticks.{count, one_if}
use Rattle.hls_chron.proofs.CountLaws.{count-push, count-agree}
use Rattle.hls_machine.specs.Hierarchy.{Hierarchy, Stay, Tick, Node, Loaded, Admitted, Thread}
use Rattle.hls_machine.specs.Hierarchy.{had_asked, was_served, is_just, is_ready}
use Rattle.hls_machine.specs.Steps.{Path, Hop, elapsed, thread_of, ticked, hop_at, hops_of}
use Rattle.hls_machine.specs.Supplied.{end_of}
use Rattle.hls_machine.proofs.Kept.{at_same, at_other}
use Rattle.hls_legal.specs.Agrees.{idle_in}
use Rattle.hls_tree_nodes.specs.Leapt as leapt
use Rattle.hls_core_stays.specs.Tallies.{AreTallies, IsTally, IsNoted, waited}
use Rattle.hls_core_stays.specs.Changes.{flagged}
use Rattle.hls_core_stays.specs.Inside.Steps.{HasOpen, noted_tally, served_tally}
use Rattle.hls_core_stays.specs.declared.stays.Stays.{Stays}
use Rattle.hls_core_stays.specs.declared.tally.Tally.{Tally}
use Rattle.hls_core_stays.proofs.Lists.{inner, of_set, IsSet, Here, There}
use Rattle.hls_core_stays.proofs.Ends.{Finds, HasTally, tally_found, place_is}
use Rattle.hls_core_stays.proofs.Flags.{was_there, was_ready}
use Rattle.hls_core_stays.proofs.Noted.{noted_rest, noted_total, noted_flag, noted_early}

-- a thread after a tick was the same before
ticked_was : (mask : ℕ) (hop : Option Hop) (node : Option Node) (t : Thread)
    → ticked mask hop node ≡ Some (Admitted t) → node ≡ Some (Admitted t)
ticked_was mask hop None t e = absurd (cc)
ticked_was mask hop (Some (Loaded s)) t e = absurd (cc)
ticked_was mask hop (Some (Admitted was)) t e = e

-- so many, or none
abbrev pub times : Bool → ℕ → ℕ
times true n = n
times false n = 0

times_more : (b : Bool) (n : ℕ) → times b n + one_if b ≡ times b (suc n)
times_more true n = omega arith
times_more false n = refl

-- so many ticks more have passed since a thread became ready
pub grown : (ready now n : ℕ) (since : Option ℕ) → ((tick : ℕ) → since ≡ Some tick → tick ≤ now)
    → ready + waited (now + n) since ≡ ready + waited now since + times (is_some since) n
grown ready now n None early =
    let same : ready + 0 ≡ ready + 0 + 0 = omega arith in same
grown ready now n (Some t) early =
    let le = early t refl in
    let more : ready + (now + n - t) ≡ ready + (now - t) + n = omega (arith, le) in more

module _ (h : Hierarchy) (asking : ℕ → Bool) (masks : ℕ → ℕ) (path : Option Path) where
  abbrev next : Hierarchy
  next = elapsed h asking masks path

  abbrev last : Tick
  last = record { asking = asking; to = thread_of path }

  -- ---- one tick

  -- what was counted before is counted still
  asked_same : (k since n : ℕ) → since + n ≤ h.now
      → count (had_asked next.past k) since n ≡ count (had_asked h.past k) since n
  asked_same k since n le = count-agree (had_asked next.past k) (had_asked h.past k) since n
      (λ t lo hi. ap (λ (w : Tick). w.asking k) (at_other t h.now last (h.past t) (λ e. omega (arith, e, hi, le))))

  served_same : (k since n : ℕ) → since + n ≤ h.now
      → count (was_served next.past k) since n ≡ count (was_served h.past k) since n
  served_same k since n le = count-agree (was_served next.past k) (was_served h.past k) since n
      (λ t lo hi. ap (λ (w : Tick). is_just w.to k) (at_other t h.now last (h.past t)
      (λ e. omega (arith, e, hi, le))))

  asked_more : (k since : ℕ) → since ≤ h.now
      → count (had_asked next.past k) since (h.now + 1 - since)
      ≡ count (had_asked h.past k) since (h.now - since) + one_if (asking k)
  asked_more k since le =
      let n : ℕ = h.now - since in
      let more : h.now + 1 - since ≡ suc n = omega (arith, le) in
      let at_now : since + n ≡ h.now = omega (arith, le) in
      ap (count (had_asked next.past k) since) more
      ∙ count-push (had_asked next.past k) since n
      ∙ ap (λ x. x + one_if (had_asked next.past k (since + n))) (asked_same k since n (omega (arith, at_now)))
      ∙ ap (λ b. count (had_asked h.past k) since n + one_if b)
      (ap (λ (w : Tick). w.asking k) (at_same (since + n) h.now last (h.past (since + n)) at_now))

  served_more : (k since : ℕ) → since ≤ h.now
      → count (was_served next.past k) since (h.now + 1 - since)
      ≡ count (was_served h.past k) since (h.now - since) + one_if (is_just (thread_of path) k)
  served_more k since le =
      let n : ℕ = h.now - since in
      let more : h.now + 1 - since ≡ suc n = omega (arith, le) in
      let at_now : since + n ≡ h.now = omega (arith, le) in
      ap (count (was_served next.past k) since) more
      ∙ count-push (was_served next.past k) since n
      ∙ ap (λ x. x + one_if (was_served next.past k (since + n))) (served_same k since n (omega (arith, at_now)))
      ∙ ap (λ b. count (was_served h.past k) since n + one_if b)
      (ap (λ (w : Tick). is_just w.to k) (at_same (since + n) h.now last (h.past (since + n)) at_now))

  idle_more : idle_in next ≡ idle_in h + one_if (is_none (thread_of path))
  idle_more =
      let f : ℕ → Bool = λ x. is_none (next.past x).to in
      let more : h.now + 1 ≡ suc h.now = omega arith in
      let at : 0 + h.now ≡ h.now = omega arith in
      ap (count f 0) more ∙ count-push f 0 h.now
      ∙ ap (λ n. n + one_if (f (0 + h.now)))
      (count-agree f (λ x. is_none (h.past x).to) 0 h.now
      (λ x lo hi. ap (λ (w : Tick). is_none w.to) (at_other x h.now last (h.past x) (λ e. omega (arith, e, hi)))))
      ∙ ap (λ b. idle_in h + one_if b)
      (ap (λ (w : Tick). is_none w.to) (at_same (0 + h.now) h.now last (h.past (0 + h.now)) at))

-- ---- many

-- what ticks that are alike leave of a hierarchy
pub record IsOn (h later : Hierarchy) (asking : ℕ → Bool) (to : Option ℕ) (n : ℕ) : Type 0 where
  pub now : later.now ≡ h.now + n
  pub stays : later.stays ≡ h.stays
  pub was : (k : ℕ) (t : Thread) → later.nodes k ≡ Some (Admitted t) → h.nodes k ≡ Some (Admitted t)
  pub asked_same : (k since m : ℕ) → since + m ≤ h.now
      → count (had_asked later.past k) since m ≡ count (had_asked h.past k) since m
  pub served_same : (k since m : ℕ) → since + m ≤ h.now
      → count (was_served later.past k) since m ≡ count (was_served h.past k) since m
  pub asked_more : (k since : ℕ) → since ≤ h.now → count (had_asked later.past k) since (later.now - since)
      ≡ count (had_asked h.past k) since (h.now - since) + times (asking k) n
  pub served_more : (k since : ℕ) → since ≤ h.now → count (was_served later.past k) since (later.now - since)
      ≡ count (was_served h.past k) since (h.now - since) + times (is_just to k) n
  pub idle : idle_in later ≡ idle_in h + times (is_none to) n

-- one count more
push_times : (b : Bool) (n was mid now : ℕ) → mid ≡ was + times b n → now ≡ mid + one_if b → now ≡ was + times b (suc n)
push_times b n was mid now before next =
    let more = times_more b n in omega (arith, before, next, more)

module _ (h : Hierarchy) (asking : ℕ → Bool) (masks : ℕ → ℕ) (path : Option Path) where
  pub on_ticks : (n : ℕ) → IsOn h (leapt.later h asking masks path n) asking (thread_of path) n
  on_ticks zero = record {
    now = omega arith;
    stays = refl;
    was = λ k t there. there;
    asked_same = λ k since m le. refl;
    served_same = λ k since m le. refl;
    asked_more = λ k since le. none (asking k) (count (had_asked h.past k) since (h.now - since));
    served_more =
        λ k since le. none (is_just (thread_of path) k) (count (was_served h.past k) since (h.now - since));
    idle = none (is_none (thread_of path)) (idle_in h);
  }
    where
      none : (b : Bool) (was : ℕ) → was ≡ was + times b 0
      none true was = omega arith
      none false was = omega arith
  on_ticks (suc n) =
      let mid = leapt.later h asking masks path n in
      let on = on_ticks n in
      let at = on.now in
      record {
        now = omega (arith, at);
        stays = on.stays;
        was = λ k t there. on.was k t (ticked_was (masks k) (hop_at (hops_of path) k) (mid.nodes k) t there);
        asked_same = λ k since m le.
            asked_same mid asking masks path k since m (omega (arith, le, at)) ∙ on.asked_same k since m le;
        served_same = λ k since m le.
            served_same mid asking masks path k since m (omega (arith, le, at)) ∙ on.served_same k since m le;
        asked_more = λ k since le.
            push_times (asking k) n _ _ _ (on.asked_more k since le)
            (asked_more mid asking masks path k since (omega (arith, le, at)));
        served_more = λ k since le.
            push_times (is_just (thread_of path) k) n _ _ _ (on.served_more k since le)
            (served_more mid asking masks path k since (omega (arith, le, at)));
        idle = push_times (is_none (thread_of path)) n _ _ _ on.idle (idle_more mid asking masks path);
      }

module _ (h later : Hierarchy) (asking : ℕ → Bool) (to : Option ℕ) (n : ℕ) (on : IsOn h later asking to n)
    (flag : ℕ → Bool) where
  -- the hierarchy after the ticks, in which threads are ready as flags say
  abbrev told : Hierarchy
  told = flagged flag later

  -- a stay that has ended
  shut_by : (stay : Stay) (tally : Tally) (until : Option ℕ) → stay.until ≡ until → (until ≡ None → ⊥)
      → IsTally h stay tally → IsTally told stay tally
  shut_by stay tally None e some is = absurd (some refl)
  shut_by stay tally (Some t) e some is =
      let k = stay.thread in
      let past : t ≤ h.now = subst (λ n. n ≤ h.now) (ap (end_of h.now) e) is.past in
      let le = is.early in
      record {
        thread = is.thread;
        name = is.name;
        kept = is.kept;
        since = is.since;
        until = is.until;
        ready =
            ap (λ u. tally.ready + waited (end_of later.now u) tally.ready_since) (is.until ∙ e)
            ∙ ap (λ u. tally.ready + waited (end_of h.now u) tally.ready_since) (sym e ∙ sym is.until)
            ∙ is.ready
            ∙ ap (λ u. count (had_asked h.past k) stay.since (end_of h.now u - stay.since)) e
            ∙ sym (on.asked_same k stay.since (t - stay.since) (omega (arith, le, past)))
            ∙ ap (λ u. count (had_asked later.past k) stay.since (end_of later.now u - stay.since)) (sym e);
        served =
            is.served
            ∙ ap (λ u. count (was_served h.past k) stay.since (end_of h.now u - stay.since)) e
            ∙ sym (on.served_same k stay.since (t - stay.since) (omega (arith, le, past)))
            ∙ ap (λ u. count (was_served later.past k) stay.since (end_of later.now u - stay.since)) (sym e);
        noted = λ none. absurd (some (sym e ∙ none));
        early = (let at = on.now in let more : stay.since ≤ later.now = omega (arith, le, at) in more);
        past = (let at = on.now in
            let end : end_of later.now stay.until ≡ t = ap (end_of later.now) e in
            let more : t ≤ later.now = omega (arith, past, at) in subst (λ n. n ≤ later.now) (sym end) more);
      }

  -- a stay that is open, of a thread that asks where it is noted as ready
  open_by : (stay : Stay) (tally new : Tally) → IsTally h stay tally → stay.until ≡ None
      → asking stay.thread ≡ is_some tally.ready_since → new.thread ≡ tally.thread → new.name ≡ tally.name
      → new.kept ≡ tally.kept → new.since ≡ tally.since → new.until ≡ tally.until
      → new.ready + waited later.now new.ready_since ≡ tally.ready + waited later.now tally.ready_since
      → new.served ≡ tally.served + times (is_just to stay.thread) n
      → IsNoted told stay.thread new.ready_since → IsTally told stay new
  open_by stay tally new is none asks thread name kept since until total served noted =
      let k = stay.thread in
      let le = is.early in
      record {
        thread = thread ∙ is.thread;
        name = name ∙ is.name;
        kept = kept ∙ is.kept;
        since = since ∙ is.since;
        until = until ∙ is.until;
        ready =
            ap (λ u. new.ready + waited (end_of later.now u) new.ready_since) (until ∙ is.until ∙ none)
            ∙ total
            ∙ ap (λ m. tally.ready + waited m tally.ready_since) on.now
            ∙ grown tally.ready h.now n tally.ready_since (is.noted none).early
            ∙ ap (λ u. tally.ready + waited (end_of h.now u) tally.ready_since
            + times (is_some tally.ready_since) n) (sym none ∙ sym is.until)
            ∙ ap (λ m. m + times (is_some tally.ready_since) n) is.ready
            ∙ ap (λ b. count (had_asked h.past k) stay.since (end_of h.now stay.until - stay.since) + times b n)
            (sym asks)
            ∙ ap (λ u. count (had_asked h.past k) stay.since (end_of h.now u - stay.since) + times (asking k) n) none
            ∙ sym (on.asked_more k stay.since le)
            ∙ ap (λ u. count (had_asked later.past k) stay.since (end_of later.now u - stay.since)) (sym none);
        served =
            served
            ∙ ap (λ m. m + times (is_just to k) n) is.served
            ∙ ap (λ u. count (was_served h.past k) stay.since (end_of h.now u - stay.since)
            + times (is_just to k) n) none
            ∙ sym (on.served_more k stay.since le)
            ∙ ap (λ u. count (was_served later.past k) stay.since (end_of later.now u - stay.since)) (sym none);
        noted = λ e. noted;
        early = (let at = on.now in let more : stay.since ≤ later.now = omega (arith, le, at) in more);
        past = (let end : end_of later.now stay.until ≡ later.now = ap (end_of later.now) none in
            let same : later.now ≤ later.now = omega arith in subst (λ m. m ≤ later.now) (sym end) same);
      }

  -- what is known of the thread of an open stay
  pub record Goes (stay : Stay) : Type 0 where
    pub asks : (since : Option ℕ) → IsNoted h stay.thread since → asking stay.thread ≡ is_some since
    pub others : (t : Thread) → is_just to stay.thread ≡ false
        → h.nodes stay.thread ≡ Some (Admitted t)
        → is_ready (was_served h.past stay.thread) h.now t.wake ≡ flag stay.thread

  -- a stay whose thread was not served
  pub unserved : (stay : Stay) (tally : Tally) → IsTally h stay tally
      → (stay.until ≡ None → is_just to stay.thread ≡ false) → (stay.until ≡ None → Goes stay)
      → IsTally told stay tally
  unserved stay tally is off goes = by stay.until refl
    where
      open_still : stay.until ≡ None → IsTally told stay tally
      open_still none =
          open_by stay tally tally is none ((goes none).asks tally.ready_since (is.noted none)) refl refl refl refl
          refl refl (let no : times (is_just to stay.thread) n ≡ 0 = ap (λ b. times b n) (off none) in
          omega (arith, no)) (record {
            is = λ t there.
                (let k = stay.thread in
                let x = was_there (flag k) (later.nodes k) t there in
                let was = on.was k x.was x.there in
                (is.noted none).is x.was was ∙ (goes none).others x.was (off none) was
                ∙ sym (was_ready (was_served later.past k) later.now (flag k) t.wake x.wake));
            early = λ tick e.
                (let le = (is.noted none).early tick e in
                let at = on.now in let more : tick ≤ later.now = omega (arith, le, at) in more);
          })

      by : (until : Option ℕ) → stay.until ≡ until → IsTally told stay tally
      by None e = open_still e
      by (Some t) e = shut_by stay tally (Some t) e (λ no. (absurd (cc))) is

  -- the stay of the thread that was served
  pub served_one : (stay : Stay) (tally : Tally) (k now : ℕ) → IsTally h stay tally
      → stay.until ≡ None → stay.thread ≡ k → to ≡ Some k → now ≡ later.now → Goes stay
      → IsTally told stay (noted_tally (flag k) now (served_tally n tally))
  served_one stay tally k now is none same to_k at_now goes =
      let rest = noted_rest (flag k) now (served_tally n tally) in
      open_by stay tally (noted_tally (flag k) now (served_tally n tally)) is none
      (goes.asks tally.ready_since (is.noted none)) rest.thread rest.name rest.kept rest.since rest.until
      (subst (λ m. (noted_tally (flag k) now (served_tally n tally)).ready
      + waited m (noted_tally (flag k) now (served_tally n tally)).ready_since
      ≡ tally.ready + waited m tally.ready_since) at_now (noted_total (flag k) now (served_tally n tally)))
      (rest.served ∙ ap (λ b. tally.served + times b n) (sym here)) (record {
        is = λ t there.
            (let x = was_there (flag stay.thread) (later.nodes stay.thread) t there in
            noted_flag (flag k) now (served_tally n tally) ∙ ap flag (sym same)
            ∙ sym (was_ready (was_served later.past stay.thread) later.now (flag stay.thread) t.wake x.wake));
        early = λ tick e.
            subst (λ m. tick ≤ m) at_now (noted_early (flag k) now (served_tally n tally)
            (λ since was. (let le = (is.noted none).early since was in let at = on.now in
            omega (arith, le, at_now, at))) tick e);
      })
    where
      here : is_just to stay.thread ≡ true
      here = ap (λ o. is_just o stay.thread) to_k ∙ Rattle.std.proofs.lemmas.Bool.eq-eqb k stay.thread (sym same)

  pub served_tallies : (s new : Stays) (stays : List Stay) (k place now : ℕ) → AreTallies s h stays
      → HasOpen stays k → Finds s k place → now ≡ later.now → to ≡ Some k
      → ((i : ℕ) (stay : Stay) → slice_get stays i ≡ Some stay → stay.until ≡ None → Goes stay)
      → ((tally : Tally) → slice_get s.tallies.items place ≡ Some tally
      → new.tallies.items ≡ slice_set s.tallies.items place (noted_tally (flag k) now (served_tally n tally)))
      → (i : ℕ) (stay : Stay) (tally : Tally) → slice_get stays i ≡ Some stay
      → slice_get new.tallies.items i ≡ Some tally → IsTally told stay tally
  served_tallies s new stays k place now are has finds at_now to_k goes set i stay tally e f =
      of (of_set s.tallies.items place counted i tally (ap (λ l. slice_get l i) (sym (set t.tally t.there)) ∙ f))
    where
      at_place : place ≡ has.at
      at_place = place_is s h stays k place are has finds

      t : HasTally s h place has.stay
      t = tally_found s h stays k place are has finds

      counted : Tally
      counted = noted_tally (flag k) now (served_tally n t.tally)

      of : IsSet s.tallies.items place counted i tally → IsTally told stay tally
      of (Here at same) =
          let this : has.stay ≡ stay =
          inner has.stay stay (sym has.there ∙ ap (slice_get stays) (sym at_place ∙ sym at) ∙ e) in
          subst (λ (y : Tally). IsTally told stay y) same
          (subst (λ (y : Stay). IsTally told y counted) this
          (served_one has.stay t.tally k now t.is has.is_open has.thread to_k at_now
          (goes has.at has.stay has.there has.is_open)))
      of (There ne g) =
          unserved stay tally (are.each i stay tally e g)
          (λ none. ap (λ o. is_just o stay.thread) to_k ∙ ne_eqb k stay.thread (λ same. ne
          (are.single i has.at stay has.stay e has.there none has.is_open (sym same ∙ sym has.thread)
          ∙ sym at_place))) (goes i stay e)

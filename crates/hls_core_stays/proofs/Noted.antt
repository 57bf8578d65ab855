-- Whether threads are ready, as tallies note it.
use Rattle.std.proofs.Common.{◌≡◌, ◌≢◌, ℕ, ◌+◌, ◌-◌, ◌≤◌, inl, inr, List, Bool, true, false}
use Rattle.std.proofs.Common.{length, refl, sym, ap, ◌∙◌, subst, arith, is_some}
use Rattle.std.specs.Prelude.{Option, Some, None, slice_get, slice_set}
use Rattle.std.proofs.lemmas.Bool.{cases_eq}
use Rattle.hls_machine.specs.Hierarchy.{Hierarchy, Stay, Thread, Node, Loaded, Admitted, Wake}
use Rattle.hls_machine.specs.Hierarchy.{is_ready, was_served}
use Rattle.hls_machine.specs.Steps.{effect, is_thread, roused, with_wake}
use Rattle.hls_machine.specs.Supplied.{end_of}
use Rattle.hls_machine.proofs.Kept.{at_other}
use Rattle.hls_legal.proofs.Alike.{wake_of, alike_other, alike_same}
use Rattle.hls_core_stays.specs.Tallies.{AreTallies, IsTally, IsNoted, waited}
use Rattle.hls_core_stays.specs.Inside.Steps.{HasOpen, noted_by, noted_tally}
use Rattle.hls_core_stays.specs.declared.stays.Stays.{Stays}
use Rattle.hls_core_stays.specs.declared.tally.Tally.{Tally}
use Rattle.hls_core_stays.proofs.Lists.{inner, of_set, IsSet, Here, There, length-set}
use Rattle.hls_core_stays.proofs.Ends.{Finds, HasTally, tally_found, place_is}

-- ---- what a note leaves of a tally

-- all but whether its thread is ready
pub record IsRest (new old : Tally) : Type 0 where
  pub thread : new.thread ≡ old.thread
  pub name : new.name ≡ old.name
  pub kept : new.kept ≡ old.kept
  pub since : new.since ≡ old.since
  pub until : new.until ≡ old.until
  pub served : new.served ≡ old.served

rest_same : (tally : Tally) → IsRest tally tally
rest_same tally = record { thread = refl; name = refl; kept = refl; since = refl; until = refl; served = refl }

rest_by : (since : Option ℕ) (ready : Bool) (now : ℕ) (tally : Tally) → IsRest (noted_by since ready now tally) tally
rest_by None true now tally =
    record { thread = refl; name = refl; kept = refl; since = refl; until = refl; served = refl }
rest_by None false now tally = rest_same tally
rest_by (Some t) true now tally = rest_same tally
rest_by (Some t) false now tally =
    record { thread = refl; name = refl; kept = refl; since = refl; until = refl; served = refl }

pub noted_rest : (ready : Bool) (now : ℕ) (tally : Tally) → IsRest (noted_tally ready now tally) tally
noted_rest ready now tally = rest_by tally.ready_since ready now tally

total_by : (since : Option ℕ) (ready : Bool) (now : ℕ) (tally : Tally) → tally.ready_since ≡ since
    → (noted_by since ready now tally).ready + waited now (noted_by since ready now tally).ready_since
    ≡ tally.ready + waited now tally.ready_since
total_by None true now tally e =
    let none : waited now tally.ready_since ≡ 0 = ap (waited now) e in
    let same : tally.ready + (now - now) ≡ tally.ready + waited now tally.ready_since = omega (arith, none) in same
total_by None false now tally e = refl
total_by (Some t) true now tally e = refl
total_by (Some t) false now tally e =
    let some : waited now tally.ready_since ≡ now - t = ap (waited now) e in
    let same : tally.ready + (now - t) + 0 ≡ tally.ready + waited now tally.ready_since = omega (arith, some) in same

pub noted_total : (ready : Bool) (now : ℕ) (tally : Tally)
    → (noted_tally ready now tally).ready + waited now (noted_tally ready now tally).ready_since
    ≡ tally.ready + waited now tally.ready_since
noted_total ready now tally = total_by tally.ready_since ready now tally refl

flag_by : (since : Option ℕ) (ready : Bool) (now : ℕ) (tally : Tally) → tally.ready_since ≡ since
    → is_some (noted_by since ready now tally).ready_since ≡ ready
flag_by None true now tally e = refl
flag_by None false now tally e = ap is_some e
flag_by (Some t) true now tally e = ap is_some e
flag_by (Some t) false now tally e = refl

pub noted_flag : (ready : Bool) (now : ℕ) (tally : Tally)
    → is_some (noted_tally ready now tally).ready_since ≡ ready
noted_flag ready now tally = flag_by tally.ready_since ready now tally refl

early_by : (since : Option ℕ) (ready : Bool) (now : ℕ) (tally : Tally) → tally.ready_since ≡ since
    → ((tick : ℕ) → tally.ready_since ≡ Some tick → tick ≤ now) → (tick : ℕ)
    → (noted_by since ready now tally).ready_since ≡ Some tick → tick ≤ now
early_by None true now tally e early tick is = (let same = inner now tick is in omega (arith, same))
early_by None false now tally e early tick is = early tick is
early_by (Some t) true now tally e early tick is = early tick is
early_by (Some t) false now tally e early tick is = absurd (cc)

pub noted_early : (ready : Bool) (now : ℕ) (tally : Tally)
    → ((tick : ℕ) → tally.ready_since ≡ Some tick → tick ≤ now) → (tick : ℕ)
    → (noted_tally ready now tally).ready_since ≡ Some tick → tick ≤ now
noted_early ready now tally early = early_by tally.ready_since ready now tally refl early

-- ---- a thread that is woken or blocked

-- a tally in a hierarchy with a wake more, where it notes the thread
roused_is : (h : Hierarchy) (k : ℕ) (how : Wake) (stay : Stay) (tally new : Tally) → IsTally h stay tally
    → IsRest new tally
    → new.ready + waited (end_of h.now tally.until) new.ready_since
    ≡ tally.ready + waited (end_of h.now tally.until) tally.ready_since
    → (stay.until ≡ None → IsNoted (with_wake h k how) stay.thread new.ready_since)
    → IsTally (with_wake h k how) stay new
roused_is h k how stay tally new is rest total noted = record {
  thread = rest.thread ∙ is.thread;
  name = rest.name ∙ is.name;
  kept = rest.kept ∙ is.kept;
  since = rest.since ∙ is.since;
  until = rest.until ∙ is.until;
  ready =
      ap (λ u. new.ready + waited (end_of h.now u) new.ready_since) rest.until ∙ total ∙ is.ready;
  served = rest.served ∙ is.served;
  noted = noted;
  early = is.early;
  past = is.past;
}

-- another thread is ready as before
roused_other : (h : Hierarchy) (k c : ℕ) (how : Wake) (since : Option ℕ) → c ≢ k → IsNoted h c since
    → IsNoted (with_wake h k how) c since
roused_other h k c how since ne noted = record {
  is = λ t e. noted.is t (sym (at_other c k (roused how (h.nodes c)) (h.nodes c) ne) ∙ e);
  early = noted.early;
}

pub note_one : (s new : Stays) (h : Hierarchy) (stays : List Stay) (k place now : ℕ) (how : Wake) (ready : Bool)
    → AreTallies s h stays → HasOpen stays k → Finds s k place → now ≡ h.now
    → ((t : Thread) → (with_wake h k how).nodes k ≡ Some (Admitted t)
    → is_ready (was_served h.past k) h.now t.wake ≡ ready)
    → ((tally : Tally) → slice_get s.tallies.items place ≡ Some tally
    → new.tallies.items ≡ slice_set s.tallies.items place (noted_tally ready now tally))
    → new.idle ≡ s.idle → AreTallies new (with_wake h k how) stays
note_one s new h stays k place now how ready are has finds at_now flag set idle = record {
  many = ap length is ∙ length-set s.tallies.items place (noted_tally ready now t.tally) ∙ are.many;
  each = λ i stay tally e f.
      of stay i tally e
      (of_set s.tallies.items place (noted_tally ready now t.tally) i tally (ap (λ l. slice_get l i) (sym is) ∙ f));
  single = are.single;
  idle = idle ∙ are.idle;
}
  where
    at_place : place ≡ has.at
    at_place = place_is s h stays k place are has finds

    t : HasTally s h place has.stay
    t = tally_found s h stays k place are has finds

    is : new.tallies.items ≡ slice_set s.tallies.items place (noted_tally ready now t.tally)
    is = set t.tally t.there

    none : t.tally.until ≡ None
    none = t.is.until ∙ has.is_open

    mine : IsTally (with_wake h k how) has.stay (noted_tally ready now t.tally)
    mine =
        roused_is h k how has.stay t.tally (noted_tally ready now t.tally) t.is (noted_rest ready now t.tally)
        (ap (λ n. (noted_tally ready now t.tally).ready + waited n (noted_tally ready now t.tally).ready_since)
        (ap (end_of h.now) none ∙ sym at_now) ∙ noted_total ready now t.tally
        ∙ ap (λ n. t.tally.ready + waited n t.tally.ready_since) (at_now ∙ ap (end_of h.now) (sym none)))
        (λ e. subst (λ c. IsNoted (with_wake h k how) c (noted_tally ready now t.tally).ready_since) (sym has.thread)
        (record {
          is = λ x there. noted_flag ready now t.tally ∙ sym (flag x there);
          early = λ tick e.
              subst (λ n. tick ≤ n) at_now (noted_early ready now t.tally
              (λ n was. subst (λ m. n ≤ m) (sym at_now) ((t.is.noted has.is_open).early n was)) tick e);
        }))

    of : (x : Stay) (i : ℕ) (tally : Tally) → slice_get stays i ≡ Some x
        → IsSet s.tallies.items place (noted_tally ready now t.tally) i tally
        → IsTally (with_wake h k how) x tally
    of x i tally there (Here at same) =
        let this : has.stay ≡ x =
        inner has.stay x (sym has.there ∙ ap (slice_get stays) (sym at_place ∙ sym at) ∙ there) in
        subst (λ (y : Tally). IsTally (with_wake h k how) x y) same
        (subst (λ (y : Stay). IsTally (with_wake h k how) y (noted_tally ready now t.tally)) this mine)
    of x i tally there (There ne e) =
        let was = are.each i x tally there e in
        roused_is h k how x tally tally was (rest_same tally) refl
        (λ open_yet. roused_other h k x.thread how tally.ready_since
        (λ same. ne (are.single i has.at x has.stay there has.there open_yet has.is_open (same ∙ sym has.thread)
        ∙ sym at_place)) (was.noted open_yet))

-- ---- the effect of a command

-- a thread that is there after it was there before, with its wake
thread_was : (node : Option Node) → is_thread node ≡ true
    → (t : Thread) × (node ≡ Some (Admitted t)) × (wake_of node ≡ t.wake)
thread_was None is = absurd (cc)
thread_was (Some (Loaded s)) is = absurd (cc)
thread_was (Some (Admitted t)) is = (t, refl, refl)

still_noted : (h : Hierarchy) (c : ℕ) (since : Option ℕ) (node : Option Node) (t : Thread) → IsNoted h c since
    → node ≡ Some (Admitted t) → is_thread node ≡ is_thread (h.nodes c) → wake_of node ≡ wake_of (h.nodes c)
    → is_some since ≡ is_ready (was_served h.past c) h.now t.wake
still_noted h c since node t noted there sort wake =
    let was = thread_was (h.nodes c) (sym sort ∙ ap is_thread there) in
    noted.is was.0 was.1
    ∙ ap (is_ready (was_served h.past c) h.now) (sym was.2 ∙ sym wake ∙ ap wake_of there)

-- Tallies go by ticks, stays and wakes alone. The node that a command is on keeps its wake, where it has an open
-- stay.
pub at_effect : (s : Stays) (h : Hierarchy) (k : ℕ) (node : Option Node) (below : ℕ → Bool) (stays : List Stay)
    → (HasOpen stays k → is_thread node ≡ true
    → (is_thread node ≡ is_thread (h.nodes k)) × (wake_of node ≡ wake_of (h.nodes k)))
    → AreTallies s h stays → AreTallies s (effect h k node below) stays
at_effect s h k node below stays keeps are = record {
  many = are.many;
  each = λ i stay tally e f. each i stay tally e (are.each i stay tally e f);
  single = are.single;
  idle = are.idle;
}
  where
    later : Hierarchy
    later = effect h k node below

    noted : (i : ℕ) (stay : Stay) (tally : Tally) → slice_get stays i ≡ Some stay → stay.until ≡ None
        → IsTally h stay tally → (t : Thread) → later.nodes stay.thread ≡ Some (Admitted t)
        → is_some tally.ready_since ≡ is_ready (was_served h.past stay.thread) h.now t.wake
    noted i stay tally e none is t there = elim (cases_eq stay.thread k) [
      | inl same ↦ let alike = alike_same h k node below stay.thread same in
          let sort : is_thread node ≡ true = sym alike.sort ∙ ap is_thread there in
          let kept = keeps (record { at = i; stay = stay; there = e; thread = same; is_open = none }) sort in
          still_noted h stay.thread tally.ready_since (later.nodes stay.thread) t (is.noted none) there
          (alike.sort ∙ kept.0 ∙ ap (λ c. is_thread (h.nodes c)) (sym same))
          (alike.wake ∙ kept.1 ∙ ap (λ c. wake_of (h.nodes c)) (sym same))
      | inr other ↦ let alike = alike_other h k node below stay.thread other in
          still_noted h stay.thread tally.ready_since (later.nodes stay.thread) t (is.noted none) there
          alike.sort alike.wake
    ]

    each : (i : ℕ) (stay : Stay) (tally : Tally) → slice_get stays i ≡ Some stay → IsTally h stay tally
        → IsTally (effect h k node below) stay tally
    each i stay tally e is = record {
      thread = is.thread;
      name = is.name;
      kept = is.kept;
      since = is.since;
      until = is.until;
      ready = is.ready;
      served = is.served;
      noted = λ none. record {
        is = λ t there. noted i stay tally e none is t there;
        early = (is.noted none).early;
      };
      early = is.early;
      past = is.past;
    }

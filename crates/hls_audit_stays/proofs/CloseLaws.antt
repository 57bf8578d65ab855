-- Open stays that end, one after another.
use Rattle.std.proofs.Common.{◌≡◌, ◌≢◌, ℕ, zero, suc, inl, inr, ◌+◌, ◌<◌, ◌≤◌, List, [], ◌∷◌, ◌++◌, Bool, true, false}
use Rattle.std.proofs.Common.{length, refl, sym, ap, ◌∙◌, subst, arith, map, take, filter, cond}
use Rattle.std.specs.Prelude.{Option, Some, None, slice_get, slice_set, option_map, not, if◌then◌else◌}
use Rattle.std.specs.Option.{option_or}
use Rattle.std.proofs.lemmas.Bool.{cases_eq}
use Rattle.std.proofs.lemmas.List.{append-nil}
use Rattle.hls_text.specs.Lines.{Text}
use Rattle.hls_audit_stays.specs.declared.found.FoundStay.{FoundStay}
use Rattle.hls_audit_stays.specs.Inside.Carried.{AreOpen, IsFresh, AreFresh, end_if, ended_at, found_by}
use Rattle.hls_audit_stays.specs.declared.seats.Seats.{Seats}
use Rattle.hls_audit_stays.proofs.Lists.{same_all, get_map, get_set, get_apart, get_within, take_next, take_all}
use Rattle.hls_audit_stays.proofs.Lists.{filter_append, kept_of, kept_at, get_last, get_front}
use Rattle.hls_audit_stays.proofs.Lists.{of_either, IsOf, Front, Last}

-- the stay at a place passes a test
abbrev pub passes : (Text → Bool) → Option FoundStay → Bool
passes test None = false
passes test (Some stay) = test stay.name

-- one at a place goes on
abbrev pub goes_on : (Text → Bool) → List FoundStay → (place : ℕ) → Bool
goes_on test stays place = not (passes test (slice_get stays place))

-- a stay has ended where it is to, or its place is among those that are left
pub data IsDone (test : Text → Bool) (tick : ℕ) (old now : List FoundStay) (open_at : List ℕ)
    (at place : ℕ) : Type 0 where
  Ended : slice_get now place ≡ option_map (end_if test tick) (slice_get old place)
      → IsDone test tick old now open_at at place
  Left : (later : ℕ) → at ≤ later → slice_get open_at later ≡ Some place → slice_get now place ≡ slice_get old place
      → IsDone test tick old now open_at at place

-- so many of the open stays have been looked at
pub record AreEnding (test : Text → Bool) (tick : ℕ) (old now : List FoundStay) (open_at still : List ℕ) (at : ℕ)
    : Type 0 where
  pub done : (place : ℕ) → IsDone test tick old now open_at at place
  pub still_is : still ≡ filter (goes_on test old) (take at open_at)

unchanged : (test : Text → Bool) (tick : ℕ) (stay : FoundStay) (until : Option ℕ) → stay.until ≡ until
    → until ≢ None → end_if test tick stay ≡ stay
unchanged test tick stay None is ne = absurd (ne refl)
unchanged test tick stay (Some end) is ne =
    ap (λ (u : Option ℕ). record stay { until = option_or u (if test stay.name then Some tick else None) }) is
    ∙ ap (λ (u : Option ℕ). record stay { until = u }) (sym is)

pub ending_start : (test : Text → Bool) (tick : ℕ) (stays : List FoundStay) (open_at : List ℕ) → AreOpen stays open_at
    → AreEnding test tick stays stays open_at [] 0
ending_start test tick stays open_at are = record { done = done; still_is = refl }
  where
    at_stay : (place : ℕ) (stay : FoundStay) (until : Option ℕ) → slice_get stays place ≡ Some stay → stay.until ≡ until
        → IsDone test tick stays stays open_at 0 place
    at_stay place stay None e is =
        let found = are.each place stay e is in Left found.0 (omega arith) found.1 refl
    at_stay place stay (Some end) e is =
        Ended (e ∙ ap (λ (s : FoundStay). Some s) (sym (unchanged test tick stay (Some end) is (λ no. absurd (cc))))
        ∙ sym (ap (option_map (end_if test tick)) e))

    at_place : (place : ℕ) (found : Option FoundStay) → slice_get stays place ≡ found
        → IsDone test tick stays stays open_at 0 place
    at_place place None e = Ended (e ∙ sym (ap (option_map (end_if test tick)) e))
    at_place place (Some stay) e = at_stay place stay stay.until e refl

    done : (place : ℕ) → IsDone test tick stays stays open_at 0 place
    done place = at_place place (slice_get stays place) refl

-- the stay at an open place, before and after it may have ended
record IsSeen (test : Text → Bool) (tick : ℕ) (old now : List FoundStay) (place : ℕ) : Type 0 where
  first : FoundStay
  first_there : slice_get old place ≡ Some first
  was_open : first.until ≡ None
  stay : FoundStay
  there : slice_get now place ≡ Some stay
  named : stay.name ≡ first.name
  ends : test first.name ≡ true → ended_at tick stay ≡ end_if test tick first
  lasts : test first.name ≡ false → stay ≡ end_if test tick first

ended_is : (test : Text → Bool) (tick : ℕ) (first : FoundStay) → first.until ≡ None → test first.name ≡ true
    → ended_at tick first ≡ end_if test tick first
ended_is test tick first none is =
    ap (λ b. record first { until = option_or None (if b then Some tick else None) }) (sym is)
    ∙ ap (λ (u : Option ℕ). record first { until = option_or u (if test first.name then Some tick else None) })
    (sym none)

lasts_is : (test : Text → Bool) (tick : ℕ) (first : FoundStay) → first.until ≡ None → test first.name ≡ false
    → first ≡ end_if test tick first
lasts_is test tick first none is =
    ap (λ (u : Option ℕ). record first { until = u }) none
    ∙ ap (λ b. record first { until = option_or None (if b then Some tick else None) }) (sym is)
    ∙ ap (λ (u : Option ℕ). record first { until = option_or u (if test first.name then Some tick else None) })
    (sym none)

seen_at : (test : Text → Bool) (tick : ℕ) (old now : List FoundStay) (open_at : List ℕ) (at place : ℕ)
    → AreOpen old open_at
    → slice_get open_at at ≡ Some place → IsDone test tick old now open_at at place → IsSeen test tick old now place
seen_at test tick old now open_at at place are here done = from done
  where
    only : (stay : FoundStay) × (slice_get old place ≡ Some stay) × (stay.until ≡ None)
    only = are.only at place here

    from : IsDone test tick old now open_at at place → IsSeen test tick old now place
    from (Ended e) = record {
      first = only.0;
      first_there = only.1;
      was_open = only.2;
      stay = end_if test tick only.0;
      there = e ∙ ap (option_map (end_if test tick)) only.1;
      named = refl;
      ends = λ is. ended_is test tick only.0 only.2 is;
      lasts = λ is. refl;
    }
    from (Left later le e same) = record {
      first = only.0;
      first_there = only.1;
      was_open = only.2;
      stay = only.0;
      there = same ∙ only.1;
      named = refl;
      ends = λ is. ended_is test tick only.0 only.2 is;
      lasts = λ is. lasts_is test tick only.0 only.2 is;
    }

pub within_now : (test : Text → Bool) (tick : ℕ) (old now : List FoundStay) (open_at still : List ℕ) (at place : ℕ)
    → AreOpen old open_at → slice_get open_at at ≡ Some place → AreEnding test tick old now open_at still at
    → place < length now
within_now test tick old now open_at still at place are here ending =
    let seen = seen_at test tick old now open_at at place are here (ending.done place) in
    get_within now place seen.stay seen.there

done_apart : (test : Text → Bool) (tick : ℕ) (old now new : List FoundStay) (open_at : List ℕ) (at place other : ℕ)
    → slice_get open_at at ≡ Some place → other ≢ place → slice_get new other ≡ slice_get now other
    → IsDone test tick old now open_at at other → IsDone test tick old new open_at (at + 1) other
done_apart test tick old now new open_at at place other here ne same (Ended e) = Ended (same ∙ e)
done_apart test tick old now new open_at at place other here ne same (Left later le e was) =
    elim (cases_eq later at) [
      | inl is ↦ absurd (ne (let both : Some other ≡ Some place =
          sym e ∙ ap (λ n. slice_get open_at n) is ∙ here in cc))
      | inr apart ↦ Left later (omega (arith, le, apart)) e (same ∙ was)
    ]

still_next : (keeps : ℕ → Bool) (open_at : List ℕ) (at place : ℕ) → slice_get open_at at ≡ Some place
    → filter keeps (take (at + 1) open_at) ≡ filter keeps (take at open_at) ++ cond (keeps place) (place ∷ []) []
still_next keeps open_at at place here =
    ap (filter keeps) (take_next open_at at place here) ∙ filter_append keeps (take at open_at) (place ∷ [])

-- the stay at the next open place ends
pub ending_hit : (test : Text → Bool) (tick : ℕ) (old now new : List FoundStay) (open_at still : List ℕ) (at place : ℕ)
    (stay : FoundStay) → AreOpen old open_at → slice_get open_at at ≡ Some place → slice_get now place ≡ Some stay
    → test stay.name ≡ true → new ≡ slice_set now place (ended_at tick stay)
    → AreEnding test tick old now open_at still at → AreEnding test tick old new open_at still (at + 1)
ending_hit test tick old now new open_at still at place stay are here there hit is ending =
    record { done = done; still_is = still_is }
  where
    seen : IsSeen test tick old now place
    seen = seen_at test tick old now open_at at place are here (ending.done place)

    same : stay ≡ seen.stay
    same = let both : Some stay ≡ Some seen.stay = sym there ∙ seen.there in cc

    passed : test seen.first.name ≡ true
    passed = ap test (sym seen.named) ∙ ap (λ (s : FoundStay). test s.name) (sym same) ∙ hit

    done : (other : ℕ) → IsDone test tick old new open_at (at + 1) other
    done other = elim (cases_eq other place) [
      | inl e ↦ Ended (ap (slice_get new) e ∙ ap (λ (l : List FoundStay). slice_get l place) is
          ∙ get_set now place stay (ended_at tick stay) there
          ∙ ap (λ (s : FoundStay). Some (ended_at tick s)) same
          ∙ ap (λ (s : FoundStay). Some s) (seen.ends passed)
          ∙ sym (ap (option_map (end_if test tick)) (ap (slice_get old) e ∙ seen.first_there)))
      | inr ne ↦ done_apart test tick old now new open_at at place other here ne
          (ap (λ (l : List FoundStay). slice_get l other) is ∙ get_apart now place other (ended_at tick stay) ne)
          (ending.done other)
    ]

    off : goes_on test old place ≡ false
    off = ap (λ found. not (passes test found)) seen.first_there ∙ ap not passed

    still_is : still ≡ filter (goes_on test old) (take (at + 1) open_at)
    still_is =
        ending.still_is ∙ sym (append-nil (filter (goes_on test old) (take at open_at)))
        ∙ ap (λ b. filter (goes_on test old) (take at open_at) ++ cond b (place ∷ []) []) (sym off)
        ∙ sym (still_next (goes_on test old) open_at at place here)

-- the stay at the next open place goes on
pub ending_miss : (test : Text → Bool) (tick : ℕ) (old now : List FoundStay) (open_at still more : List ℕ)
    (at place : ℕ)
    (stay : FoundStay) → AreOpen old open_at → slice_get open_at at ≡ Some place → slice_get now place ≡ Some stay
    → test stay.name ≡ false → more ≡ still ++ place ∷ []
    → AreEnding test tick old now open_at still at → AreEnding test tick old now open_at more (at + 1)
ending_miss test tick old now open_at still more at place stay are here there miss is ending =
    record { done = done; still_is = still_is }
  where
    seen : IsSeen test tick old now place
    seen = seen_at test tick old now open_at at place are here (ending.done place)

    same : stay ≡ seen.stay
    same = let both : Some stay ≡ Some seen.stay = sym there ∙ seen.there in cc

    passed : test seen.first.name ≡ false
    passed = ap test (sym seen.named) ∙ ap (λ (s : FoundStay). test s.name) (sym same) ∙ miss

    done : (other : ℕ) → IsDone test tick old now open_at (at + 1) other
    done other = elim (cases_eq other place) [
      | inl e ↦ Ended (ap (slice_get now) e ∙ seen.there
          ∙ ap (λ (s : FoundStay). Some s) (seen.lasts passed)
          ∙ sym (ap (option_map (end_if test tick)) (ap (slice_get old) e ∙ seen.first_there)))
      | inr ne ↦ done_apart test tick old now now open_at at place other here ne refl (ending.done other)
    ]

    on : goes_on test old place ≡ true
    on = ap (λ found. not (passes test found)) seen.first_there ∙ ap not passed

    still_is : more ≡ filter (goes_on test old) (take (at + 1) open_at)
    still_is =
        is ∙ ap (λ l. l ++ place ∷ []) ending.still_is
        ∙ ap (λ b. filter (goes_on test old) (take at open_at) ++ cond b (place ∷ []) []) (sym on)
        ∙ sym (still_next (goes_on test old) open_at at place here)

-- ---- all open stays have been looked at

pub ending_all : (test : Text → Bool) (tick : ℕ) (old now : List FoundStay) (open_at still : List ℕ) (at : ℕ)
    → length open_at ≤ at → AreEnding test tick old now open_at still at → now ≡ map (end_if test tick) old
ending_all test tick old now open_at still at past ending =
    same_all now (map (end_if test tick) old)
    (λ place. each place (ending.done place) ∙ sym (get_map (end_if test tick) old place))
  where
    each : (place : ℕ) → IsDone test tick old now open_at at place
        → slice_get now place ≡ option_map (end_if test tick) (slice_get old place)
    each place (Ended e) = e
    each place (Left later le e same) =
        absurd (let lt = get_within open_at later place e in omega (arith, lt, le, past))

record WasOpen (test : Text → Bool) (tick : ℕ) (first stay : FoundStay) : Type 0 where
  was : first.until ≡ None
  misses : test first.name ≡ false

was_open : (test : Text → Bool) (tick : ℕ) (first stay : FoundStay) → stay ≡ end_if test tick first → stay.until ≡ None
    → WasOpen test tick first stay
was_open test tick first stay is none = record {
  was = let both = split first.until (test first.name) ends in both.0;
  misses = let both = split first.until (test first.name) ends in both.1;
}
  where
    ends : option_or first.until (if test first.name then Some tick else None) ≡ None
    ends = ap (λ (s : FoundStay). s.until) (sym is) ∙ none

    split : (until : Option ℕ) (b : Bool) → option_or until (if b then Some tick else None) ≡ None
        → (until ≡ None) × (b ≡ false)
    split None true e = absurd (cc)
    split None false e = (refl, refl)
    split (Some end) b e = absurd (cc)

pub still_open : (test : Text → Bool) (tick : ℕ) (old now : List FoundStay) (open_at still : List ℕ) (at : ℕ)
    → length open_at ≤ at → AreOpen old open_at → AreEnding test tick old now open_at still at → AreOpen now still
still_open test tick old now open_at still at past are ending = record { each = each; only = only }
  where
    is : (place : ℕ) → slice_get now place ≡ option_map (end_if test tick) (slice_get old place)
    is place =
        ap (λ (l : List FoundStay). slice_get l place) (ending_all test tick old now open_at still at past ending)
        ∙ get_map (end_if test tick) old place

    kept : still ≡ filter (goes_on test old) open_at
    kept = ending.still_is ∙ ap (filter (goes_on test old)) (take_all open_at at past)

    from : (place : ℕ) (stay : FoundStay) (found : Option FoundStay) → slice_get old place ≡ found
        → Some stay ≡ option_map (end_if test tick) found → stay.until ≡ None
        → (n : ℕ) × (slice_get still n ≡ Some place)
    from place stay None e same none = absurd (cc)
    from place stay (Some first) e same none =
        let one : stay ≡ end_if test tick first = cc in
        let was = was_open test tick first stay one none in
        let found = are.each place first e was.was in
        let on : goes_on test old place ≡ true =
        ap (λ f. not (passes test f)) e ∙ ap not was.misses in
        let at_still = kept_at (goes_on test old) open_at found.0 place found.1 on in
        (at_still.0, ap (λ (l : List ℕ). slice_get l at_still.0) kept ∙ at_still.1)

    each : (place : ℕ) (stay : FoundStay) → slice_get now place ≡ Some stay → stay.until ≡ None
        → (n : ℕ) × (slice_get still n ≡ Some place)
    each place stay e none = from place stay (slice_get old place) refl (sym e ∙ is place) none

    only : (n place : ℕ) → slice_get still n ≡ Some place
        → (stay : FoundStay) × (slice_get now place ≡ Some stay) × (stay.until ≡ None)
    only n place e =
        let k = kept_of (goes_on test old) open_at n place (ap (λ (l : List ℕ). slice_get l n) (sym kept) ∙ e) in
        let first = are.only k.at place k.there in
        let misses : test first.0.name ≡ false =
        not_true (test first.0.name) (ap (λ f. not (passes test f)) (sym first.1) ∙ k.passes) in
        let same = lasts_is test tick first.0 first.2 misses in (
          end_if test tick first.0,
          is place ∙ ap (option_map (end_if test tick)) first.1,
          ap (λ (s : FoundStay). s.until) (sym same) ∙ first.2,
        )
      where
        not_true : (b : Bool) → not b ≡ true → b ≡ false
        not_true true e = absurd (cc)
        not_true false e = refl

-- ---- a stay that begins

pub open_more : (stays : List FoundStay) (open_at : List ℕ) (stay : FoundStay) → stay.until ≡ None
    → AreOpen stays open_at
    → AreOpen (stays ++ stay ∷ []) (open_at ++ length stays ∷ [])
open_more stays open_at stay none are = record { each = each; only = only }
  where
    at_each : (place : ℕ) (other : FoundStay) → other.until ≡ None → IsOf stays stay place other
        → (n : ℕ) × (slice_get (open_at ++ length stays ∷ []) n ≡ Some place)
    at_each place other is (Front e) =
        let found = are.each place other e is in
        (found.0, get_front open_at (length stays ∷ []) found.0 place found.1)
    at_each place other is (Last end same) =
        (length open_at, get_last open_at (length stays) ∙ ap (λ n. Some n) (sym end))

    each : (place : ℕ) (other : FoundStay) → slice_get (stays ++ stay ∷ []) place ≡ Some other → other.until ≡ None
        → (n : ℕ) × (slice_get (open_at ++ length stays ∷ []) n ≡ Some place)
    each place other e is = at_each place other is (of_either stays stay place other e)

    at_only : (n place : ℕ) → IsOf open_at (length stays) n place
        → (other : FoundStay) × (slice_get (stays ++ stay ∷ []) place ≡ Some other) × (other.until ≡ None)
    at_only n place (Front e) =
        let found = are.only n place e in
        (found.0, get_front stays (stay ∷ []) place found.0 found.1, found.2)
    at_only n place (Last end same) =
        (stay, ap (λ p. slice_get (stays ++ stay ∷ []) p) (sym same) ∙ get_last stays stay, none)

    only : (n place : ℕ) → slice_get (open_at ++ length stays ∷ []) n ≡ Some place
        → (other : FoundStay) × (slice_get (stays ++ stay ∷ []) place ≡ Some other) × (other.until ≡ None)
    only n place e = at_only n place (of_either open_at (length stays) n place e)

pub open_none : AreOpen [] []
open_none = record { each = λ place stay e is. absurd (cc); only = λ at place e. absurd (cc) }

pub open_push : (stays more : List FoundStay) (open_at next : List ℕ) (stay : FoundStay) (place : ℕ) → stay.until ≡ None
    → more ≡ stays ++ stay ∷ [] → next ≡ open_at ++ place ∷ [] → place ≡ length stays → AreOpen stays open_at
    → AreOpen more next
open_push stays more open_at next stay place none more_is next_is end are =
    subst (λ (l : List FoundStay). AreOpen l next) (sym more_is)
    (subst (λ (l : List ℕ). AreOpen (stays ++ stay ∷ []) l)
    (sym (next_is ∙ ap (λ n. open_at ++ n ∷ []) end)) (open_more stays open_at stay none are))

-- ---- stays of the present tick

pub fresh_on : (one more : List FoundStay) (tick : ℕ) → AreFresh one tick → AreFresh more tick
    → AreFresh (one ++ more) tick
fresh_on [] more tick are others k found e = others k found e
fresh_on (stay ∷ one) more tick are others zero found e = are 0 found e
fresh_on (stay ∷ one) more tick are others (suc k) found e =
    fresh_on one more tick (λ j f. are (suc j) f) others k found e

pub fresh_begun : (s : Seats) (tick : ℕ) (names : List Text) → AreFresh (map (found_by s tick) names) tick
fresh_begun s tick [] k found e = absurd (cc)
fresh_begun s tick (name ∷ names) zero found e =
    let same : found_by s tick name ≡ found = cc in
    subst (λ (f : FoundStay). IsFresh tick f) same (record { since = refl; until = refl })
fresh_begun s tick (name ∷ names) (suc k) found e = fresh_begun s tick names k found e

pub fresh_left : (test : FoundStay → Bool) (fresh : List FoundStay) (tick : ℕ) → AreFresh fresh tick
    → AreFresh (filter test fresh) tick
fresh_left test fresh tick are k found e = let kept = kept_of test fresh k found e in are kept.at found kept.there

pub fresh_one : (stay : FoundStay) (tick : ℕ) → stay.since ≡ tick → stay.until ≡ None → AreFresh (stay ∷ []) tick
fresh_one stay tick since until zero found e =
    let same : stay ≡ found = cc in
    subst (λ (f : FoundStay). IsFresh tick f) same (record { since = since; until = until })
fresh_one stay tick since until (suc k) found e = absurd (cc)

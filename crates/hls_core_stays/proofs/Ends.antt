-- A stay that ends, and one that begins.
use Rattle.std.proofs.Common.{◌≡◌, ℕ, zero, suc, ◌+◌, ◌-◌, ◌<◌, ◌≤◌, List, [], ◌∷◌, ◌++◌}
use Rattle.std.proofs.Common.{Bool, true, false, ◌==◌, length, refl, sym, ap, ◌∙◌, subst, arith}
use Rattle.std.specs.Prelude.{Option, Some, None, slice_get, slice_set, option_map}
use Rattle.std.proofs.lemmas.Bool.{eq-eqb, ne_eqb}
use Rattle.std.proofs.lemmas.List.{length-map, length-append}
use Rattle.std.proofs.lemmas.Option.{slice_get_within}
use Rattle.hls_chron.specs.Ticks.{count}
use Rattle.hls_chron.proofs.CountLaws.{count-none}
use Rattle.hls_text.specs.Lines.{Text}
use Rattle.hls_guarantee.specs.declared.Guarantee.{Guarantee}
use Rattle.hls_machine.specs.Hierarchy.{Hierarchy, Stay, Thread, Node, Admitted, Seat, had_asked, was_served, name_of}
use Rattle.hls_machine.specs.Hierarchy.{seat_of}
use Rattle.hls_machine.specs.Legal.{IsThread}
use Rattle.hls_machine.specs.Steps.{closed, ended, stay_of}
use Rattle.hls_machine.specs.Supplied.{end_of}
use Rattle.hls_core_stays.specs.Tallies.{AreTallies, AreSingle, IsTally, IsNoted, waited, open_by, opened_at}
use Rattle.hls_core_stays.specs.Inside.Steps.{HasOpen, HasNone, MayClose, without, closed_tally}
use Rattle.hls_core_stays.specs.declared.stays.Stays.{Stays}
use Rattle.hls_core_stays.specs.declared.tally.Tally.{Tally}
use Rattle.hls_core_stays.proofs.Opened.{open_on, open_off}
use Rattle.hls_core_stays.proofs.Lists.{inner, beside, of_ends, AreBeside, Before, Last, of_set, IsSet, Here, There}
use Rattle.hls_core_stays.proofs.Lists.{length-set, image_of, of_either, IsOf, Front, Back}

was_open : (b : Bool) (now : ℕ) (until : Option ℕ) → ended b now until ≡ None → until ≡ None
was_open b now None e = refl
was_open true now (Some t) e = absurd (cc)
was_open false now (Some t) e = absurd (cc)

ended_not : (b : Bool) (now : ℕ) (until : Option ℕ) → (until ≡ None → b ≡ false) → ended b now until ≡ until
ended_not b now None off = ap (λ x. ended x now None) (off refl)
ended_not true now (Some t) off = refl
ended_not false now (Some t) off = refl

pub closed_not : (stay : Stay) (b : Bool) (now : ℕ) → (stay.until ≡ None → b ≡ false) → closed b now stay ≡ stay
closed_not stay b now off = ap (λ (u : Option ℕ). record stay { until = u }) (ended_not b now stay.until off)

-- ---- the place of an open stay

-- what is found for a thread is an open stay of it, if there is one
abbrev pub Finds : Stays → (k place : ℕ) → Type 0
Finds s k place = (at : ℕ) → opened_at s.tallies.items at k ≡ true → opened_at s.tallies.items place k ≡ true

-- the tally of an open stay
pub record HasTally (s : Stays) (h : Hierarchy) (at : ℕ) (stay : Stay) : Type 0 where
  pub tally : Tally
  pub there : slice_get s.tallies.items at ≡ Some tally
  pub is : IsTally h stay tally
  pub within : at < length s.tallies.items

pub tally_at : (s : Stays) (h : Hierarchy) (stays : List Stay) (k : ℕ) → AreTallies s h stays
    → (has : HasOpen stays k) → HasTally s h has.at has.stay
tally_at s h stays k are has =
    let t = beside stays s.tallies.items (sym are.many) has.at has.stay has.there in
    record {
      tally = t.0;
      there = t.1;
      is = are.each has.at has.stay t.0 has.there t.1;
      within = slice_get_within s.tallies.items has.at t.0 t.1;
    }

pub place_is : (s : Stays) (h : Hierarchy) (stays : List Stay) (k place : ℕ) → AreTallies s h stays
    → (has : HasOpen stays k) → Finds s k place → place ≡ has.at
place_is s h stays k place are has finds =
    let t = tally_at s h stays k are has in
    let on : opened_at s.tallies.items has.at k ≡ true =
    ap (λ o. open_by o k) t.there ∙ open_on t.tally k (t.is.until ∙ has.is_open) (t.is.thread ∙ has.thread) in
    let x = open_off (slice_get s.tallies.items place) k (finds has.at on) in
    let stay = beside s.tallies.items stays are.many place x.tally x.there in
    let is = are.each place stay.0 x.tally stay.1 x.there in
    are.single place has.at stay.0 has.stay stay.1 has.there (sym is.until ∙ x.until) has.is_open
    (sym is.thread ∙ x.thread ∙ sym has.thread)

-- the tally there, by the place that was found
pub tally_found : (s : Stays) (h : Hierarchy) (stays : List Stay) (k place : ℕ) → AreTallies s h stays
    → (has : HasOpen stays k) → Finds s k place → HasTally s h place has.stay
tally_found s h stays k place are has finds =
    subst (λ n. HasTally s h n has.stay) (sym (place_is s h stays k place are has finds))
    (tally_at s h stays k are has)

pub found_within : (s : Stays) (k place : ℕ) → MayClose s k → Finds s k place → place < length s.tallies.items
found_within s k place may finds =
    (tally_found s may.h may.stays k place may.are may.has finds).within

-- and where it has ended
pub closed_within : (s : Stays) (items : List Tally) (k place now : ℕ) → MayClose s k → Finds s k place
    → ((tally : Tally) → slice_get s.tallies.items place ≡ Some tally
    → items ≡ slice_set s.tallies.items place (closed_tally now tally)) → place < length items
closed_within s items k place now may finds set =
    let t = tally_found s may.h may.stays k place may.are may.has finds in
    let within = t.within in
    let same = ap length (set t.tally t.there) ∙ length-set s.tallies.items place (closed_tally now t.tally) in
    omega (arith, within, same)

-- ---- a stay that ends

closed_is : (h : Hierarchy) (stay : Stay) (tally : Tally) (k now : ℕ) → IsTally h stay tally → stay.thread ≡ k
    → stay.until ≡ None → h.now ≡ now
    → IsTally h (closed (stay.thread == k) h.now stay) (closed_tally now tally)
closed_is h stay tally k now is same none at_now = record {
  thread = is.thread;
  name = is.name;
  kept = is.kept;
  since = is.since;
  until = ap (λ n. Some n) (sym at_now) ∙ sym ended_is;
  ready =
      ap (λ n. tally.ready + waited n tally.ready_since) (sym at_now ∙ ap (end_of h.now) (sym none ∙ sym is.until))
      ∙ is.ready
      ∙ ap (λ u. count (had_asked h.past stay.thread) stay.since (end_of h.now u - stay.since)) none
      ∙ ap (λ u. count (had_asked h.past stay.thread) stay.since (end_of h.now u - stay.since)) (sym ended_is);
  served =
      is.served
      ∙ ap (λ u. count (was_served h.past stay.thread) stay.since (end_of h.now u - stay.since)) none
      ∙ ap (λ u. count (was_served h.past stay.thread) stay.since (end_of h.now u - stay.since)) (sym ended_is);
  noted = λ e. (let clash : Some h.now ≡ None = sym ended_is ∙ e in absurd (cc));
  early = is.early;
  past = (let same_end : end_of h.now (ended (stay.thread == k) h.now stay.until) ≡ h.now =
      ap (end_of h.now) ended_is in
      let le : h.now ≤ h.now = omega arith in subst (λ n. n ≤ h.now) (sym same_end) le);
}
  where
    ended_is : ended (stay.thread == k) h.now stay.until ≡ Some h.now
    ended_is = ap (λ b. ended b h.now stay.until) (eq-eqb stay.thread k same) ∙ ap (ended true h.now) none

single_closed : (stays : List Stay) (now k : ℕ) → AreSingle stays → AreSingle (without now k stays)
single_closed stays now k single i j one other e f p q same =
    let x = image_of (λ (s : Stay). closed (s.thread == k) now s) stays i one e in
    let y = image_of (λ (s : Stay). closed (s.thread == k) now s) stays j other f in
    single i j x.x y.x x.there y.there
    (was_open (x.x.thread == k) now x.x.until (ap (λ (s : Stay). s.until) x.is ∙ p))
    (was_open (y.x.thread == k) now y.x.until (ap (λ (s : Stay). s.until) y.is ∙ q))
    (ap (λ (s : Stay). s.thread) x.is ∙ same ∙ sym (ap (λ (s : Stay). s.thread) y.is))

pub close_one : (s new : Stays) (h : Hierarchy) (stays : List Stay) (k place now : ℕ) → AreTallies s h stays
    → HasOpen stays k → h.now ≡ now → Finds s k place
    → ((tally : Tally) → slice_get s.tallies.items place ≡ Some tally
    → new.tallies.items ≡ slice_set s.tallies.items place (closed_tally now tally))
    → new.idle ≡ s.idle → AreTallies new h (without h.now k stays)
close_one s new h stays k place now are has at_now finds set idle = record {
  many = ap length is ∙ length-set s.tallies.items place (closed_tally now t.tally) ∙ are.many
      ∙ sym (length-map stays (λ (x : Stay). closed (x.thread == k) h.now x));
  each = λ i stay tally e f.
      (let was = image_of (λ (x : Stay). closed (x.thread == k) h.now x) stays i stay e in
      subst (λ (x : Stay). IsTally h x tally) was.is (of was.x i tally was.there
      (of_set s.tallies.items place (closed_tally now t.tally) i tally (ap (λ l. slice_get l i) (sym is) ∙ f))));
  single = single_closed stays h.now k are.single;
  idle = idle ∙ are.idle;
}
  where
    at_place : place ≡ has.at
    at_place = place_is s h stays k place are has finds

    t : HasTally s h place has.stay
    t = tally_found s h stays k place are has finds

    is : new.tallies.items ≡ slice_set s.tallies.items place (closed_tally now t.tally)
    is = set t.tally t.there

    of : (x : Stay) (i : ℕ) (tally : Tally) → slice_get stays i ≡ Some x
        → IsSet s.tallies.items place (closed_tally now t.tally) i tally
        → IsTally h (closed (x.thread == k) h.now x) tally
    of x i tally there (Here at same) =
        let mine : has.stay ≡ x =
        inner has.stay x (sym has.there ∙ ap (slice_get stays) (sym at_place ∙ sym at) ∙ there) in
        subst (λ (y : Tally). IsTally h (closed (x.thread == k) h.now x) y) same
        (subst (λ (y : Stay). IsTally h (closed (y.thread == k) h.now y) (closed_tally now t.tally)) mine
        (closed_is h has.stay t.tally k now t.is has.thread has.is_open at_now))
    of x i tally there (There ne e) =
        subst (λ (y : Stay). IsTally h y tally)
        (sym (closed_not x (x.thread == k) h.now (λ none. ne_eqb x.thread k (λ same. ne
        (are.single i has.at x has.stay there has.there none has.is_open (same ∙ sym has.thread) ∙ sym at_place)))))
        (are.each i x tally there e)

-- where the stay of a thread has ended it has no other
pub ended_none : (h : Hierarchy) (stays : List Stay) (k : ℕ) → HasNone (without h.now k stays) k
ended_none h stays k at stay e none is =
    let was = image_of (λ (x : Stay). closed (x.thread == k) h.now x) stays at stay e in
    let on = eq-eqb was.x.thread k (ap (λ (x : Stay). x.thread) was.is ∙ is) in
    let until : ended (was.x.thread == k) h.now was.x.until ≡ None = ap (λ (x : Stay). x.until) was.is ∙ none in
    let open_then = was_open (was.x.thread == k) h.now was.x.until until in
    let clash : ended true h.now None ≡ None =
    ap (λ b. ended b h.now None) (sym on) ∙ ap (ended (was.x.thread == k) h.now) (sym open_then) ∙ until in
    absurd (cc)

-- ---- a stay that begins

abbrev pub begun : (now k : ℕ) → Thread → Stay
begun now k t = record { thread = k; name = t.name; kept = t.seat.kept; since = now; until = None }

-- the tally of a stay that begins
pub record IsNew (h : Hierarchy) (k : ℕ) (t : Thread) (tally : Tally) : Type 0 where
  pub thread : tally.thread ≡ k
  pub name : tally.name ≡ t.name
  pub kept : tally.kept ≡ t.seat.kept
  pub since : tally.since ≡ h.now
  pub until : tally.until ≡ None
  pub ready : tally.ready ≡ 0
  pub waited_none : waited h.now tally.ready_since ≡ 0
  pub served : tally.served ≡ 0
  pub noted : IsNoted h k tally.ready_since

new_is : (h : Hierarchy) (k : ℕ) (t : Thread) (tally : Tally) → IsNew h k t tally
    → IsTally h (begun h.now k t) tally
new_is h k t tally new =
    let none : h.now - h.now ≡ 0 = omega arith in
    let asked : count (had_asked h.past k) h.now (h.now - h.now) ≡ 0 =
    ap (count (had_asked h.past k) h.now) none ∙ count-none (had_asked h.past k) h.now in
    let ran : count (was_served h.past k) h.now (h.now - h.now) ≡ 0 =
    ap (count (was_served h.past k) h.now) none ∙ count-none (was_served h.past k) h.now in
    let ready = new.ready in
    let waits : waited (end_of h.now tally.until) tally.ready_since ≡ 0 =
    ap (λ u. waited (end_of h.now u) tally.ready_since) new.until ∙ new.waited_none in
    record {
      thread = new.thread;
      name = new.name;
      kept = new.kept;
      since = new.since;
      until = new.until;
      ready = (let no : tally.ready + waited (end_of h.now tally.until) tally.ready_since ≡ 0 =
          omega (arith, ready, waits) in no ∙ sym asked);
      served = new.served ∙ sym ran;
      noted = λ e. new.noted;
      early = (let le : h.now ≤ h.now = omega arith in le);
      past = (let le : h.now ≤ h.now = omega arith in le);
    }

single_begun : (stays : List Stay) (now k : ℕ) (t : Thread) → AreSingle stays → HasNone stays k
    → AreSingle (stays ++ begun now k t ∷ [])
single_begun stays now k t single none i j one other e f p q same =
    by (of_either stays (begun now k t ∷ []) i one e) (of_either stays (begun now k t ∷ []) j other f)
  where
    newest : (x : Stay) (n : ℕ) → slice_get (begun now k t ∷ []) n ≡ Some x → (n ≡ 0) × (x.thread ≡ k)
    newest x zero at = (refl, sym (ap (λ (y : Stay). y.thread) (inner (begun now k t) x at)))
    newest x (suc n) at = absurd (cc)

    by : IsOf stays (begun now k t ∷ []) i one → IsOf stays (begun now k t ∷ []) j other → i ≡ j
    by (Front at) (Front there) = single i j one other at there p q same
    by (Front at) (Back n place there) = absurd (none i one at p (same ∙ (newest other n there).1))
    by (Back n place at) (Front there) = absurd (none j other there q (sym same ∙ (newest one n at).1))
    by (Back n place at) (Back m spot there) =
        let zero_n = (newest one n at).0 in
        let zero_m = (newest other m there).0 in omega (arith, place, spot, zero_n, zero_m)

pub open_one : (s new : Stays) (h : Hierarchy) (stays : List Stay) (k : ℕ) (t : Thread) (tally : Tally)
    → AreTallies s h stays → HasNone stays k → h.nodes k ≡ Some (Admitted t) → IsNew h k t tally
    → new.tallies.items ≡ s.tallies.items ++ tally ∷ [] → new.idle ≡ s.idle
    → AreTallies new h (stays ++ stay_of h.now k (h.nodes k))
open_one s new h stays k t tally are none there is push idle =
    subst (λ (n : Option Node). AreTallies new h (stays ++ stay_of h.now k n)) (sym there) (record {
      many =
          ap length push ∙ ends s.tallies.items stays tally (begun h.now k t) are.many;
      each = λ i stay other e f. of i stay other
          (of_ends stays (begun h.now k t) s.tallies.items tally (sym are.many) i stay other e
          (ap (λ l. slice_get l i) (sym push) ∙ f));
      single = single_begun stays h.now k t are.single none;
      idle = idle ∙ are.idle;
    })
  where
    ends : (xs : List Tally) (ys : List Stay) (x : Tally) (y : Stay) → length xs ≡ length ys
        → length (xs ++ x ∷ []) ≡ length (ys ++ y ∷ [])
    ends xs ys x y same =
        length-append xs (x ∷ []) ∙ ap (λ n. n + 1) same
        ∙ sym (length-append ys (y ∷ []))

    of : (i : ℕ) (stay : Stay) (other : Tally)
        → AreBeside stays (begun h.now k t) s.tallies.items tally i stay other → IsTally h stay other
    of i stay other (Before e f) = are.each i stay other e f
    of i stay other (Last e f) =
        subst (λ (x : Stay). IsTally h x other) e
        (subst (λ (y : Tally). IsTally h (begun h.now k t) y) f (new_is h k t tally is))

pub name_is : (node : Option Node) (t : Thread) (name : Text) → node ≡ Some (Admitted t) → name_of node ≡ Some name
    → name ≡ t.name
name_is node t name there has = inner name t.name (sym has ∙ ap name_of there)

pub kept_is : (node : Option Node) (t : Thread) (kept : Guarantee) → node ≡ Some (Admitted t)
    → option_map (λ (seat : Seat). seat.kept) (seat_of node 0) ≡ Some kept → kept ≡ t.seat.kept
kept_is node t kept there has =
    inner kept t.seat.kept
    (sym has ∙ ap (λ n. option_map (λ (seat : Seat). seat.kept) (seat_of n 0)) there)

-- a stay begins with what is read of its thread
pub open_read : (s new : Stays) (h : Hierarchy) (stays : List Stay) (k : ℕ) (name : Text) (kept : Guarantee)
    (now : ℕ) (since : Option ℕ) → IsThread (h.nodes k) → AreTallies s h stays → HasNone stays k
    → name_of (h.nodes k) ≡ Some name
    → option_map (λ (seat : Seat). seat.kept) (seat_of (h.nodes k) 0) ≡ Some kept → now ≡ h.now
    → IsNoted h k since → waited h.now since ≡ 0
    → new.tallies.items ≡ s.tallies.items ++ (record {
      thread = k;
      name = name;
      kept = kept;
      since = now;
      until = None;
      ready = 0;
      ready_since = since;
      served = 0;
    }) ∷ [] → new.idle ≡ s.idle → AreTallies new h (stays ++ stay_of h.now k (h.nodes k))
open_read s new h stays k name kept now since thread are none named seated at_now noted no_wait push idle =
    open_one s new h stays k thread.thread _ are none thread.there (record {
      thread = refl;
      name = name_is (h.nodes k) thread.thread name thread.there named;
      kept = kept_is (h.nodes k) thread.thread kept thread.there seated;
      since = at_now;
      until = refl;
      ready = refl;
      waited_none = no_wait;
      served = refl;
      noted = noted;
    }) push idle

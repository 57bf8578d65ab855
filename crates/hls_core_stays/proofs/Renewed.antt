-- Stays of threads that end, and others that begin.
use Rattle.std.proofs.Common.{◌≡◌, ◌≢◌, ℕ, suc, inl, inr, ◌+◌, ◌≤◌, List, [], ◌∷◌, ◌++◌}
use Rattle.std.proofs.Common.{Bool, true, false, cond, ◌||◌, ◌==◌, length, refl, sym, ap, ◌∙◌, subst, arith}
use Rattle.std.proofs.Common.{map, filter, take, append_assoc}
use Rattle.std.specs.Prelude.{Option, Some, None, slice_get, if◌then◌else◌, Contains}
use Rattle.std.proofs.lemmas.Bool.{cases_Bool, ne_eqb}
use Rattle.std.proofs.lemmas.List.{append-nil}
use Rattle.hls_machine.specs.Hierarchy.{Hierarchy, Stay, Node, Loaded, Admitted}
use Rattle.hls_machine.specs.Steps.{closed, ended, stay_of, opened}
use Rattle.hls_machine.proofs.Listings.{contains_filter}
use Rattle.hls_core_stays.specs.Tallies.{AreTallies, IsNoted, waited}
use Rattle.hls_core_stays.specs.Inside.Rows.{seating_of}
use Rattle.hls_core_stays.specs.Inside.Steps.{begun_tally, without}
use Rattle.hls_core_stays.specs.Inside.Renewals.{IsApart, HasAlike, AreRenewable, renewed_one, renewed_all}
use Rattle.hls_core_stays.specs.declared.stays.Stays.{Stays}
use Rattle.hls_core_stays.specs.declared.tally.Tally.{Tally}
use Rattle.hls_core_stays.proofs.Lists.{map_same, map_map, map_append, get_map, beside}
use Rattle.hls_core_stays.proofs.Lists.{get_front, get_taken, is_in, is_in_at, not_in_all, take_next}
use Rattle.hls_core_stays.proofs.Lists.{take_all, place_of}
use Rattle.hls_core_stays.proofs.Ends.{Finds, closed_not, ended_none, open_one, place_is}

-- a stay begins with the name and the guarantee of the one that has ended
pub renew_one : (s shut new : Stays) (h : Hierarchy) (stays : List Stay) (k place now : ℕ) (since : Option ℕ)
    → AreTallies s h stays → (alike : HasAlike h stays k) → Finds s k place
    → AreTallies shut h (without h.now k stays) → now ≡ h.now → IsNoted h k since → waited h.now since ≡ 0
    → ((tally : Tally) → slice_get shut.tallies.items place ≡ Some tally
    → new.tallies.items ≡ shut.tallies.items ++ begun_tally k now since (seating_of tally) ∷ [])
    → new.idle ≡ shut.idle → AreTallies new h (renewed_one h stays k)
renew_one s shut new h stays k place now since are alike finds left at_now noted no_wait push idle =
    let stay = alike.has.stay in
    let there = get_map (λ (x : Stay). closed (x.thread == k) h.now x) stays alike.has.at stay alike.has.there in
    let at = place_is s h stays k place are alike.has finds in
    let was = ap (slice_get (without h.now k stays)) at ∙ there in
    let t = beside (without h.now k stays) shut.tallies.items (sym left.many) place _ was in
    let is = left.each place _ t.0 was t.1 in
    open_one shut new h (without h.now k stays) k alike.thread.thread _ left (ended_none h stays k)
    alike.thread.there (record {
      thread = refl;
      name = is.name ∙ alike.name;
      kept = is.kept ∙ alike.kept;
      since = at_now;
      until = refl;
      ready = refl;
      waited_none = no_wait;
      served = refl;
      noted = noted;
    }) (push t.0 t.1) idle

-- the open stay of another thread is still there
alike_after : (h : Hierarchy) (stays : List Stay) (c k : ℕ) → k ≢ c → HasAlike h stays k
    → HasAlike h (renewed_one h stays c) k
alike_after h stays c k ne alike =
    let has = alike.has in
    record {
      has = record {
        at = has.at;
        stay = has.stay;
        there =
            get_front (without h.now c stays) (stay_of h.now c (h.nodes c)) has.at has.stay
            (get_map (λ (x : Stay). closed (x.thread == c) h.now x) stays has.at has.stay has.there
            ∙ ap (λ (x : Stay). Some x) (closed_not has.stay (has.stay.thread == c) h.now
            (λ e. ne_eqb has.stay.thread c (λ is. ne (sym has.thread ∙ is)))));
        thread = has.thread;
        is_open = has.is_open;
      };
      thread = alike.thread;
      name = alike.name;
      kept = alike.kept;
    }

alike_all : (h : Hierarchy) (stays : List Stay) (ks : List ℕ) (k : ℕ) → ((j : ℕ) → slice_get ks j ≡ Some k → ⊥)
    → HasAlike h stays k → HasAlike h (renewed_all h stays ks) k
alike_all h stays [] k other alike = alike
alike_all h stays (c ∷ ks) k other alike =
    alike_all h (renewed_one h stays c) ks k (λ j e. other (suc j) e)
    (alike_after h stays c k (λ e. other 0 (ap (λ (x : ℕ). Some x) (sym e))) alike)

pub next_alike : (s : Stays) (h : Hierarchy) (stays : List Stay) (ids : List ℕ) (i k : ℕ)
    → AreRenewable s h stays ids → slice_get ids i ≡ Some k → HasAlike h (renewed_all h stays (take i ids)) k
next_alike s h stays ids i k may e =
    alike_all h stays (take i ids) k
    (λ j f. (let was = get_taken ids i j k f in
    let same = may.apart i j k e was.1 in
    let lt = was.0 in omega (arith, lt, same))) (may.each i k e)

renewed_last : (h : Hierarchy) (stays : List Stay) (ks : List ℕ) (k : ℕ)
    → renewed_all h stays (ks ++ k ∷ []) ≡ renewed_one h (renewed_all h stays ks) k
renewed_last h stays [] k = refl
renewed_last h stays (c ∷ ks) k = renewed_last h (renewed_one h stays c) ks k

pub renewed_next : (h : Hierarchy) (stays : List Stay) (ids : List ℕ) (i k : ℕ) → slice_get ids i ≡ Some k
    → renewed_one h (renewed_all h stays (take i ids)) k ≡ renewed_all h stays (take (i + 1) ids)
renewed_next h stays ids i k e =
    sym (renewed_last h stays (take i ids) k) ∙ ap (renewed_all h stays) (sym (take_next ids i k e))

pub renewed_whole : (s : Stays) (h : Hierarchy) (stays : List Stay) (ids : List ℕ) (i : ℕ) → length ids ≤ i
    → AreTallies s h (renewed_all h stays (take i ids)) → AreTallies s h (renewed_all h stays ids)
renewed_whole s h stays ids i le are =
    subst (λ ks. AreTallies s h (renewed_all h stays ks)) (take_all ids i le) are

-- ---- all at once

abbrev pub shut_on : (now : ℕ) → (ks : List ℕ) → Stay → Stay
shut_on now ks stay = closed (is_in ks stay.thread) now stay

ended_twice : (a b : Bool) (now : ℕ) (until : Option ℕ) → ended b now (ended a now until) ≡ ended (a || b) now until
ended_twice true b now None = ended_some b now now
  where
    ended_some : (b : Bool) (now until : ℕ) → ended b now (Some until) ≡ Some until
    ended_some true now until = refl
    ended_some false now until = refl
ended_twice true true now (Some t) = refl
ended_twice true false now (Some t) = refl
ended_twice false b now None = refl
ended_twice false true now (Some t) = refl
ended_twice false false now (Some t) = refl

shut_twice : (now k : ℕ) (ks : List ℕ) (stay : Stay)
    → shut_on now ks (closed (stay.thread == k) now stay) ≡ shut_on now (k ∷ ks) stay
shut_twice now k ks stay =
    ap (λ (u : Option ℕ). record stay { until = u })
    (ended_twice (stay.thread == k) (is_in ks stay.thread) now stay.until)

shut_none : (now : ℕ) (stays : List Stay) → map (shut_on now []) stays ≡ stays
shut_none now [] = refl
shut_none now (stay ∷ stays) =
    ap (λ x. x ∷ map (shut_on now []) stays) (closed_not stay false now (λ e. refl))
    ∙ ap (λ l. stay ∷ l) (shut_none now stays)

shut_begun : (now k : ℕ) (ks : List ℕ) (node : Option Node) → is_in ks k ≡ false
    → map (shut_on now ks) (stay_of now k node) ≡ stay_of now k node
shut_begun now k ks None off = refl
shut_begun now k ks (Some (Loaded s)) off = refl
shut_begun now k ks (Some (Admitted t)) off =
    let stay : Stay = record { thread = k; name = t.name; kept = t.seat.kept; since = now; until = None } in
    ap (λ (x : Stay). x ∷ []) (closed_not stay (is_in ks k) now (λ e. off))

pub apart_rest : (k : ℕ) (ks : List ℕ) → IsApart (k ∷ ks) → IsApart ks
apart_rest k ks apart i j c e f = (let same = apart (suc i) (suc j) c e f in omega (arith, same))

apart_first : (k : ℕ) (ks : List ℕ) → IsApart (k ∷ ks) → is_in ks k ≡ false
apart_first k ks apart =
    not_in_all ks k (λ j e. absurd (let same = apart 0 (suc j) k refl e in omega (arith, same)))

pub renewed_is : (h : Hierarchy) (stays : List Stay) (ks : List ℕ) → IsApart ks
    → renewed_all h stays ks ≡ map (shut_on h.now ks) stays ++ opened h.now h.nodes (λ c. true) ks
renewed_is h stays [] apart =
    sym (shut_none h.now stays) ∙ sym (append-nil (map (shut_on h.now []) stays))
renewed_is h stays (k ∷ ks) apart =
    let mine = stay_of h.now k (h.nodes k) in
    let rest = opened h.now h.nodes (λ c. true) ks in
    let before = without h.now k stays in
    renewed_is h (renewed_one h stays k) ks (apart_rest k ks apart)
    ∙ ap (λ l. l ++ rest) (map_append (shut_on h.now ks) before mine)
    ∙ ap (λ l. (map (shut_on h.now ks) before ++ l) ++ rest)
    (shut_begun h.now k ks (h.nodes k) (apart_first k ks apart))
    ∙ ap (λ l. (l ++ mine) ++ rest)
    (map_map (shut_on h.now ks) (λ (x : Stay). closed (x.thread == k) h.now x) stays
    ∙ map_same (shut_on h.now (k ∷ ks)) (λ (x : Stay). shut_on h.now ks (closed (x.thread == k) h.now x)) stays
    (λ i stay e. shut_twice h.now k ks stay))
    ∙ append_assoc (map (shut_on h.now (k ∷ ks)) stays) mine rest

opened_if : (now : ℕ) (nodes : ℕ → Option Node) (k : ℕ) (b : Bool) (ks : List ℕ) (stays : List Stay)
    → opened now nodes (λ c. true) ks ≡ stays
    → opened now nodes (λ c. true) (cond b (k ∷ ks) ks) ≡ (if b then stay_of now k (nodes k) else []) ++ stays
opened_if now nodes k true ks stays e = ap (λ l. stay_of now k (nodes k) ++ l) e
opened_if now nodes k false ks stays e = e

pub opened_filter : (now : ℕ) (nodes : ℕ → Option Node) (below : ℕ → Bool) (ks : List ℕ)
    → opened now nodes (λ c. true) (filter below ks) ≡ opened now nodes below ks
opened_filter now nodes below [] = refl
opened_filter now nodes below (k ∷ ks) =
    opened_if now nodes k (below k) (filter below ks) (opened now nodes below ks) (opened_filter now nodes below ks)

out_if : (b : Bool) (c k : ℕ) (ks : List ℕ) → (b ≡ true → k ≡ c → ⊥) → is_in ks k ≡ false
    → is_in (cond b (c ∷ ks) ks) k ≡ false
out_if true c k ks other e = ap (λ b. b || is_in ks k) (ne_eqb k c (λ same. other refl same)) ∙ e
out_if false c k ks other e = e

out_of : (below : ℕ → Bool) (ks : List ℕ) (k : ℕ) → below k ≡ false → is_in (filter below ks) k ≡ false
out_of below [] k off = refl
out_of below (c ∷ ks) k off =
    out_if (below c) c k (filter below ks)
    (λ on e. (let clash : true ≡ false = sym on ∙ ap below (sym e) ∙ off in absurd (cc))) (out_of below ks k off)

pub in_filter : (below : ℕ → Bool) (ks : List ℕ) (k : ℕ) → Contains ks k → is_in (filter below ks) k ≡ below k
in_filter below ks k c = elim (cases_Bool (below k)) [
  | inl on ↦ let at = place_of (filter below ks) k (contains_filter below ks k on c) in
      is_in_at (filter below ks) at.0 k at.1 ∙ sym on
  | inr off ↦ out_of below ks k off ∙ sym off
]

pub closed_alike : (stay : Stay) (a b : Bool) (now : ℕ) → (stay.until ≡ None → a ≡ b)
    → closed a now stay ≡ closed b now stay
closed_alike stay a b now same =
    ap (λ (u : Option ℕ). record stay { until = u }) (by stay.until same)
  where
    some : (b : Bool) (t : ℕ) → ended b now (Some t) ≡ Some t
    some true t = refl
    some false t = refl

    by : (until : Option ℕ) → (until ≡ None → a ≡ b) → ended a now until ≡ ended b now until
    by None e = ap (λ x. ended x now None) (e refl)
    by (Some t) e = some a t ∙ sym (some b t)

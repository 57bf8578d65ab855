-- Stays of the present tick that end, and the same ones that begin again.
use Rattle.std.proofs.Common.{◌≡◌, ℕ, suc, ◌+◌, List, [], ◌∷◌, ◌++◌, Bool, true, false}
use Rattle.std.proofs.Common.{◌==◌, ◌&&◌, cond}
use Rattle.std.proofs.Common.{length, refl, sym, ap, ◌∙◌, arith, map, take, drop}
use Rattle.std.specs.Prelude.{Some, None, slice_get, nat_lt}
use Rattle.std.proofs.lemmas.Bool.{eqb-true, le-ltb}
use Rattle.std.proofs.lemmas.List.{append-nil, length-drop, take-append-drop}
use Rattle.std.proofs.lemmas.List.Elements.{filter-append}
use Rattle.std.proofs.lemmas.Option.{slice_get_within, slice_get-get_or}
use Rattle.hls_machine.specs.Hierarchy.{Hierarchy, Stay}
use Rattle.hls_machine.specs.Steps.{ended, stay_of, opened}
use Rattle.hls_core_stays.specs.Tallies.{IsTally, lasts, lasting, open_by}
use Rattle.hls_core_stays.specs.Inside.Steps.{fresh_by}
use Rattle.hls_core_stays.specs.Inside.Renewals.{AreRenewable, AreRenewed, renewed_all}
use Rattle.hls_core_stays.specs.declared.stays.Stays.{Stays}
use Rattle.hls_core_stays.specs.declared.tally.Tally.{Tally}
use Rattle.hls_core_stays.proofs.Lists.{inner, beside, map_append, is_in, is_in_at, get_drop, get_taken, not_in_all}
use Rattle.hls_core_stays.proofs.Lists.{same_map}
use Rattle.hls_core_stays.proofs.Lasting.{lasts_of}
use Rattle.hls_core_stays.proofs.Opened.{open_off}
use Rattle.hls_core_stays.proofs.Ends.{closed_not, begun}
use Rattle.hls_core_stays.proofs.Renewed.{renewed_is, shut_on}

-- ---- lists of stays

-- the stay that a thread would begin now
pub record IsFresh (h : Hierarchy) (k : ℕ) (stay : Stay) : Type 0 where
  pub thread : stay.thread ≡ k
  pub since : stay.since ≡ h.now
  pub until : stay.until ≡ None
  pub is : stay_of h.now k (h.nodes k) ≡ stay ∷ []

-- they are those that these threads would begin now
record AreFresh (h : Hierarchy) (stays : List Stay) (ks : List ℕ) : Type 0 where
  pub many : length stays ≡ length ks
  pub each : (i k : ℕ) (stay : Stay) → slice_get ks i ≡ Some k → slice_get stays i ≡ Some stay → IsFresh h k stay

fresh_opened : (h : Hierarchy) (stays : List Stay) (ks : List ℕ) → AreFresh h stays ks
    → opened h.now h.nodes (λ c. true) ks ≡ stays
fresh_opened h [] [] are = refl
fresh_opened h [] (k ∷ ks) are = absurd (let many = are.many in omega (arith, many))
fresh_opened h (x ∷ stays) [] are = absurd (let many = are.many in omega (arith, many))
fresh_opened h (x ∷ stays) (k ∷ ks) are =
    ap (λ l. l ++ opened h.now h.nodes (λ c. true) ks) (are.each 0 k x refl refl).is
    ∙ ap (λ l. x ∷ l) (fresh_opened h stays ks (record {
      many = (let many = are.many in omega (arith, many));
      each = λ i c stay e f. are.each (suc i) c stay e f;
    }))

-- where they end now they last no tick
none_last : (f : Stay → Stay) (stays : List Stay)
    → ((i : ℕ) (stay : Stay) → slice_get stays i ≡ Some stay → lasts_of (f stay) ≡ false)
    → lasting (map f stays) ≡ []
none_last f [] off = refl
none_last f (x ∷ stays) off =
    ap (λ b. cond b (f x ∷ lasting (map f stays)) (lasting (map f stays))) (off 0 x refl)
    ∙ none_last f stays (λ i stay e. off (suc i) stay e)

shut_short : (h : Hierarchy) (ks : List ℕ) (i k : ℕ) (stay : Stay) → slice_get ks i ≡ Some k → IsFresh h k stay
    → lasts_of (shut_on h.now ks stay) ≡ false
shut_short h ks i k stay e is =
    ap (λ b. lasts stay.since (ended b h.now stay.until)) (ap (is_in ks) is.thread ∙ is_in_at ks i k e)
    ∙ ap (λ u. lasts stay.since (ended true h.now u)) is.until
    ∙ ap (λ n. nat_lt n h.now) is.since
    ∙ le-ltb h.now h.now (omega arith)

fresh_short : (h : Hierarchy) (stays : List Stay) (ks : List ℕ) → AreFresh h stays ks
    → lasting (map (shut_on h.now ks) stays) ≡ []
fresh_short h stays ks are = none_last (shut_on h.now ks) stays (λ i stay e.
    (let k = beside stays ks are.many i stay e in
    shut_short h ks i k.0 stay k.1 (are.each i k.0 stay k.1 e)))

-- the last of the stays end, none of the others, and the same begin again
again : (h : Hierarchy) (front back : List Stay) (ks : List ℕ) → AreFresh h back ks
    → map (shut_on h.now ks) front ≡ front
    → lasting (map (shut_on h.now ks) (front ++ back) ++ opened h.now h.nodes (λ c. true) ks) ≡ lasting (front ++ back)
again h front back ks are still =
    ap (λ l. lasting (map (shut_on h.now ks) (front ++ back) ++ l)) (fresh_opened h back ks are)
    ∙ filter-append lasts_of (map (shut_on h.now ks) (front ++ back)) back
    ∙ ap (λ l. lasting l ++ lasting back)
    (map_append (shut_on h.now ks) front back ∙ ap (λ l. l ++ map (shut_on h.now ks) back) still)
    ∙ ap (λ l. l ++ lasting back)
    (filter-append lasts_of front (map (shut_on h.now ks) back)
    ∙ ap (λ l. lasting front ++ l) (fresh_short h back ks are)
    ∙ append-nil (lasting front))
    ∙ sym (filter-append lasts_of front back)

-- ---- tallies

-- a tally of an open stay that began now
record IsNewest (tally : Tally) (k now : ℕ) : Type 0 where
  pub thread : tally.thread ≡ k
  pub since : tally.since ≡ now
  pub until : tally.until ≡ None

both : (a b : Bool) → (a && b) ≡ true → (a ≡ true) × (b ≡ true)
both true b e = (refl, e)
both false b e = absurd (cc)

newest_of : (tally : Tally) (k now : ℕ) → fresh_by (Some tally) k now ≡ true → IsNewest tally k now
newest_of tally k now on =
    let two = both (open_by (Some tally) k) (tally.since == now) on in
    let x = open_off (Some tally) k two.0 in
    let same : x.tally ≡ tally = sym (inner tally x.tally x.there) in
    record {
      thread = ap (λ (t : Tally). t.thread) (sym same) ∙ x.thread;
      since = eqb-true tally.since now two.1;
      until = ap (λ (t : Tally). t.until) (sym same) ∙ x.until;
    }

module _ (s : Stays) (h : Hierarchy) (stays : List Stay) (ids : List ℕ) (may : AreRenewable s h stays ids)
    (now : ℕ) (at_now : now ≡ h.now) (are : AreRenewed s ids now) where
  fresh_is : (i k at : ℕ) (stay : Stay) (tally : Tally) → slice_get ids i ≡ Some k → slice_get stays at ≡ Some stay
      → IsTally h stay tally → fresh_by (Some tally) k now ≡ true → IsFresh h k stay
  fresh_is i k at stay tally e f is on =
      let newest = newest_of tally k now on in
      let alike = may.each i k e in
      let x = alike.thread.thread in
      let thread_is : stay.thread ≡ k = sym is.thread ∙ newest.thread in
      let since_is : stay.since ≡ h.now = sym is.since ∙ newest.since ∙ at_now in
      let until_is : stay.until ≡ None = sym is.until ∙ newest.until in
      let place = may.are.single at alike.has.at stay alike.has.stay f alike.has.there until_is alike.has.is_open
      (thread_is ∙ sym alike.has.thread) in
      let same : stay ≡ alike.has.stay =
      inner stay alike.has.stay (sym f ∙ ap (slice_get stays) place ∙ alike.has.there) in
      let name : stay.name ≡ x.name = ap (λ (y : Stay). y.name) same ∙ alike.name in
      let kept : stay.kept ≡ x.seat.kept = ap (λ (y : Stay). y.kept) same ∙ alike.kept in
      let whole : stay ≡ begun h.now k x = λ i. record {
        thread = thread_is i;
        name = name i;
        kept = kept i;
        since = since_is i;
        until = until_is i;
      } in
      record {
        thread = thread_is;
        since = since_is;
        until = until_is;
        is = ap (stay_of h.now k) alike.thread.there ∙ ap (λ (y : Stay). y ∷ []) (sym whole);
      }

  fresh_at_last : (i k : ℕ) (stay : Stay) → slice_get ids i ≡ Some k → slice_get stays (are.first + i) ≡ Some stay
      → IsFresh h k stay
  fresh_at_last i k stay e f =
      let y = beside stays s.tallies.items (sym may.are.many) (are.first + i) stay f in
      fresh_is i k (are.first + i) stay y.0 e f (may.are.each (are.first + i) stay y.0 f y.1)
      (ap (λ o. fresh_by o k now) (sym y.1) ∙ are.fresh i k e)

  long : length stays ≡ are.first + length ids
  long = sym may.are.many ∙ sym are.many

  last_fresh : AreFresh h (drop are.first stays) ids
  last_fresh = record {
    many = (let whole = long in let left = length-drop are.first stays in omega (arith, whole, left));
    each = λ i k stay e f. fresh_at_last i k stay e (sym (get_drop are.first stays i) ∙ f);
  }

  -- the threads have no other open stays
  others_stay : map (shut_on h.now ids) (take are.first stays) ≡ take are.first stays
  others_stay = same_map (shut_on h.now ids) (take are.first stays) (λ i stay e.
      (let was = get_taken stays are.first i stay e in
      closed_not stay (is_in ids stay.thread) h.now (λ none. not_in_all ids stay.thread (λ j f.
      (let within = slice_get_within ids j stay.thread f in
      let whole = long in
      let there = slice_get-get_or stays (are.first + j) stay (omega (arith, within, whole)) in
      let other = fresh_at_last j stay.thread _ f there in
      let same = may.are.single i (are.first + j) stay _ was.1 there none other.until (sym other.thread) in
      let lt = was.0 in omega (arith, lt, same))))))

  pub renewed_still : lasting stays ≡ lasting (renewed_all h stays ids)
  renewed_still =
      ap lasting (sym (take-append-drop are.first stays))
      ∙ sym (again h (take are.first stays) (drop are.first stays) ids last_fresh others_stay)
      ∙ ap (λ l. lasting (map (shut_on h.now ids) l ++ opened h.now h.nodes (λ c. true) ids))
      (take-append-drop are.first stays)
      ∙ ap lasting (sym (renewed_is h stays ids may.apart))

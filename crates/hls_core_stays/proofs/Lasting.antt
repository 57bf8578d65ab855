-- Stays that are open or lasted a tick.
use Rattle.std.proofs.Common.{◌≡◌, ℕ, List, [], ◌∷◌, ◌++◌, Bool, true, false, cond, ◌==◌, refl, sym, ap, ◌∙◌, subst}
use Rattle.std.proofs.Common.{map, filter}
use Rattle.std.specs.Prelude.{Option, Some, None, slice_get, Contains}
use Rattle.std.proofs.lemmas.List.Elements.{filter-append}
use Rattle.hls_machine.specs.Hierarchy.{Hierarchy, Stay}
use Rattle.hls_machine.specs.Steps.{closed, ended, stay_of}
use Rattle.hls_machine.proofs.Listings.{contains_filter, filter_had}
use Rattle.hls_core_stays.specs.Tallies.{lasts, lasting}
use Rattle.hls_core_stays.specs.Inside.Steps.{HasOpen, HasNone, without}
use Rattle.hls_core_stays.specs.Inside.Renewals.{renewed_one, renewed_all}
use Rattle.hls_core_stays.proofs.Lists.{place_of, contains_at}

abbrev pub lasts_of : Stay → Bool
lasts_of stay = lasts stay.since stay.until

-- what passes a narrower test
within_if : {X : Type 0} (q : X → Bool) (b : Bool) (x : X) (xs ys : List X) → (b ≡ false → q x ≡ false)
    → filter q xs ≡ filter q ys → filter q (cond b (x ∷ xs) xs) ≡ filter q (x ∷ ys)
within_if q true x xs ys off rest = ap (λ l. cond (q x) (x ∷ l) l) rest
within_if q false x xs ys off rest = rest ∙ sym (ap (λ b. cond b (x ∷ filter q ys) (filter q ys)) (off refl))

pub filter_within : {X : Type 0} (p q : X → Bool) (xs : List X) → ((x : X) → p x ≡ false → q x ≡ false)
    → filter q (filter p xs) ≡ filter q xs
filter_within p q [] off = refl
filter_within p q (x ∷ xs) off =
    within_if q (p x) x (filter p xs) xs (off x) (filter_within p q xs off)

-- what passes after a change that lets nothing pass
changed_if : {X : Type 0} (p : X → Bool) (f : X → X) (b : Bool) (x : X) (xs ys : List X)
    → (b ≡ false → p (f x) ≡ false) → filter p (map f xs) ≡ filter p (map f ys)
    → filter p (map f (cond b (x ∷ xs) xs)) ≡ filter p (map f (x ∷ ys))
changed_if p f true x xs ys off rest = ap (λ l. cond (p (f x)) (f x ∷ l) l) rest
changed_if p f false x xs ys off rest =
    rest ∙ sym (ap (λ b. cond b (f x ∷ filter p (map f ys)) (filter p (map f ys))) (off refl))

filter_changed : {X : Type 0} (p : X → Bool) (f : X → X) (xs : List X)
    → ((x : X) → p x ≡ false → p (f x) ≡ false) → filter p (map f (filter p xs)) ≡ filter p (map f xs)
filter_changed p f [] off = refl
filter_changed p f (x ∷ xs) off =
    changed_if p f (p x) x (filter p xs) xs (off x) (filter_changed p f xs off)

-- ---- stays that begin and end

-- a stay of no tick has ended, and stays so
still_short : (b : Bool) (now since : ℕ) (until : Option ℕ) → lasts since until ≡ false
    → lasts since (ended b now until) ≡ false
still_short b now since None off = absurd (cc)
still_short true now since (Some t) off = off
still_short false now since (Some t) off = off

pub lasting_without : (now k : ℕ) (xs ys : List Stay) → lasting xs ≡ lasting ys
    → lasting (without now k xs) ≡ lasting (without now k ys)
lasting_without now k xs ys same =
    let shut : Stay → Stay = λ (x : Stay). closed (x.thread == k) now x in
    let short : (x : Stay) → lasts_of x ≡ false → lasts_of (closed (x.thread == k) now x) ≡ false =
    λ x off. still_short (x.thread == k) now x.since x.until off in
    sym (filter_changed lasts_of shut xs short) ∙ ap (λ l. lasting (map shut l)) same
    ∙ filter_changed lasts_of shut ys short

pub lasting_append : (xs ys more : List Stay) → lasting xs ≡ lasting ys → lasting (xs ++ more) ≡ lasting (ys ++ more)
lasting_append xs ys more same =
    filter-append lasts_of xs more ∙ ap (λ l. l ++ lasting more) same ∙ sym (filter-append lasts_of ys more)

pub lasting_renewed : (h : Hierarchy) (xs ys : List Stay) (ks : List ℕ) → lasting xs ≡ lasting ys
    → lasting (renewed_all h xs ks) ≡ lasting (renewed_all h ys ks)
lasting_renewed h xs ys [] same = same
lasting_renewed h xs ys (k ∷ ks) same =
    lasting_renewed h (renewed_one h xs k) (renewed_one h ys k) ks
    (lasting_append (without h.now k xs) (without h.now k ys) (stay_of h.now k (h.nodes k))
    (lasting_without h.now k xs ys same))

-- ---- stays that are open

-- an open stay is in each list of the same stays of a tick
pub open_in : (xs ys : List Stay) (at : ℕ) (stay : Stay) → lasting xs ≡ lasting ys → slice_get xs at ≡ Some stay
    → stay.until ≡ None → (i : ℕ) × (slice_get ys i ≡ Some stay)
open_in xs ys at stay same e none =
    place_of ys stay (filter_had lasts_of ys stay (subst (λ l. Contains l stay) same
    (contains_filter lasts_of xs stay (ap (lasts stay.since) none) (contains_at xs at stay e))))

pub has_kept : (xs ys : List Stay) (k : ℕ) → lasting xs ≡ lasting ys → HasOpen xs k → HasOpen ys k
has_kept xs ys k same has =
    let at = open_in xs ys has.at has.stay same has.there has.is_open in
    record { at = at.0; stay = has.stay; there = at.1; thread = has.thread; is_open = has.is_open }

pub none_kept : (xs ys : List Stay) (k : ℕ) → lasting ys ≡ lasting xs → HasNone xs k → HasNone ys k
none_kept xs ys k same has at stay e none =
    let there = open_in ys xs at stay same e none in has there.0 stay there.1 none

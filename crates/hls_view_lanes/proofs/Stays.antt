-- The ways by stays are the ways of a tick, and their beginnings are such ways too.
use Rattle.std.proofs.Common.{◌≡◌, ℕ, zero, suc, List, [], ◌∷◌, ◌++◌, Bool, true, false, ◌||◌, refl, ap, sym, subst}
use Rattle.std.proofs.Common.{◌⊎◌, inl, inr, map, filter, fold, take, length}
use Rattle.std.specs.Prelude.{Option, Some, None}
use Rattle.std.specs.List.{AllByRecursion}
use Rattle.std.specs.Str.{bytes_eq}
use Rattle.hls_text.specs.Lines.{Text}
use Rattle.hls_report_text.specs.Content.{Content}
use Rattle.hls_audit_clauses.specs.declared.member.Member.{Member}
use Rattle.hls_audit_clauses.specs.Names.{tree_at}
use Rattle.hls_view_tale.specs.declared.label.Label.{Label}
use Rattle.hls_view_tale.specs.declared.place.Place.{Place}
use Rattle.hls_view_tale.specs.declared.standing.Standing.{Standing}
use Rattle.hls_view_tale.specs.Places.{labels_on, place_at, labels_of, below}
use Rattle.hls_view_tale.specs.Hierarchies.{in_order, places_at, standing_at}
use Rattle.hls_view_lanes.specs.Rows.{ways_at, comes_before, with_way, ways_to, by_stays, ways_by_stays}
use Rattle.hls_view_lanes.proofs.Alls.{all-weaker, all-with, all-mapped, all-unmapped, all-joined, all-front, all-back}
use Rattle.hls_view_lanes.proofs.Alls.{all-flat, all-unflat, all-inserted, all-uninserted, all-filtered, all-unfiltered}
use Rattle.hls_view_lanes.proofs.Named.{stands, places-stand}

-- ---- what holds of all ways of a tick holds of those by stays

put-all : (P : List Label → Type 0) (ways more : List (List Label)) → AllByRecursion P ways → AllByRecursion P more
    → AllByRecursion P (fold with_way ways more)
put-all P ways [] all rest = all
put-all P ways (way ∷ more) all rest =
    put-all P (with_way ways way) more
    (all-inserted P ways (length (filter (λ other. comes_before other way) ways)) way rest.0 all) rest.1

to-all : (P : List Label → Type 0) (places : List Place) (name : Text)
    → AllByRecursion (λ (p : Place). P (labels_of p)) places → AllByRecursion P (ways_to places name)
to-all P places name all =
    let test = (λ (p : Place). bytes_eq p.label.name name) in
    put-all P [] (map labels_of (filter test places)) tt
    (all-mapped labels_of P (filter test places) (all-filtered (λ (p : Place). P (labels_of p)) test places all))

stays-all : (P : List Label → Type 0) (standing : List Standing) (places : List Place)
    → AllByRecursion (λ (p : Place). P (labels_of p)) places → AllByRecursion P (by_stays standing places)
stays-all P [] places all = tt
stays-all P (s ∷ standing) places all =
    all-joined P (ways_to places s.name) (by_stays standing places) (to-all P places s.name all)
    (stays-all P standing places all)

pub by-stays-all : (P : List Label → Type 0) (c : Content) (t : ℕ) → AllByRecursion P (ways_at c t)
    → AllByRecursion P (ways_by_stays c t)
by-stays-all P c t all =
    stays-all P (standing_at c t) (places_at c t) (all-unmapped labels_of P (places_at c t) all)

-- ---- and the other way round

put-back : (P : List Label → Type 0) (ways more : List (List Label)) → AllByRecursion P (fold with_way ways more)
    → AllByRecursion P ways × AllByRecursion P more
put-back P ways [] all = (all, tt)
put-back P ways (way ∷ more) all =
    let rest = put-back P (with_way ways way) more all in
    let here = all-uninserted P ways (length (filter (λ other. comes_before other way) ways)) way rest.0 in
    (here.1, (here.0, rest.1))

to-back : (P : List Label → Type 0) (places : List Place) (name : Text) → AllByRecursion P (ways_to places name)
    → AllByRecursion (λ (p : Place). bytes_eq p.label.name name ≡ true → P (labels_of p)) places
to-back P places name all =
    let test = (λ (p : Place). bytes_eq p.label.name name) in
    all-unfiltered (λ (p : Place). P (labels_of p)) test places
    (all-unmapped labels_of P (filter test places) (put-back P [] (map labels_of (filter test places)) all).1)

either : (P : Type 0) (a b : Bool) → (a ≡ true → P) → (b ≡ true → P) → (a || b) ≡ true → P
either P true b f g e = f refl
either P false b f g e = g e

stays-back : (P : List Label → Type 0) (standing : List Standing) (places : List Place)
    → AllByRecursion P (by_stays standing places)
    → AllByRecursion (λ (p : Place). stands standing p.label.name ≡ true → P (labels_of p)) places
stays-back P [] [] all = tt
stays-back P [] (p ∷ places) all = (λ e. absurd (let no : false ≡ true = e in cc), stays-back P [] places all)
stays-back P (s ∷ standing) places all =
    all-with (λ (p : Place). bytes_eq p.label.name s.name ≡ true → P (labels_of p))
    (λ (p : Place). stands standing p.label.name ≡ true → P (labels_of p))
    (λ (p : Place). stands (s ∷ standing) p.label.name ≡ true → P (labels_of p)) places
    (λ p f g e. either (P (labels_of p)) (bytes_eq p.label.name s.name) (stands standing p.label.name) f g e)
    (to-back P places s.name (all-front P (ways_to places s.name) (by_stays standing places) all))
    (stays-back P standing places (all-back P (ways_to places s.name) (by_stays standing places) all))

pub all-by-stays : (P : List Label → Type 0) (c : Content) (t : ℕ) → AllByRecursion P (ways_by_stays c t)
    → AllByRecursion P (ways_at c t)
all-by-stays P c t all =
    all-mapped labels_of P (places_at c t)
    (all-with (λ (p : Place). stands (standing_at c t) p.label.name ≡ true)
    (λ (p : Place). stands (standing_at c t) p.label.name ≡ true → P (labels_of p))
    (λ (p : Place). P (labels_of p)) (places_at c t) (λ p e f. f e) (places-stand c t)
    (stays-back P (standing_at c t) (places_at c t) all))

-- ---- beginnings

take-more : (n : ℕ) (way : List Label) (l : Label)
    → (take n (way ++ l ∷ []) ≡ take n way) ⊎ (take n (way ++ l ∷ []) ≡ way ++ l ∷ [])
take-more zero way l = inl refl
take-more (suc zero) [] l = inr refl
take-more (suc (suc n)) [] l = inr refl
take-more (suc n) (m ∷ way) l = elim (take-more n way l) [
  | inl same ↦ inl (ap (λ (w : List Label). m ∷ w) same)
  | inr all ↦ inr (ap (λ (w : List Label). m ∷ w) all)
]

begins-more : (P : List Label → Type 0) (way : List Label) (l : Label) → ((n : ℕ) → P (take n way))
    → P (way ++ l ∷ []) → (n : ℕ) → P (take n (way ++ l ∷ []))
begins-more P way l each whole n = elim (take-more n way l) [
  | inl same ↦ subst P (sym same) (each n)
  | inr all ↦ subst P (sym all) whole
]

below-begin : (P : List Label → Type 0) (members : List Member) (steps : ℕ) (top : Option Text) (above : List Label)
    → ((n : ℕ) → P (take n above)) → AllByRecursion (λ (p : Place). P (labels_of p)) (below members steps top above)
    → AllByRecursion (λ (p : Place). (n : ℕ) → P (take n (labels_of p))) (below members steps top above)
unfolding below
below-begin P members zero top above each all = tt
below-begin P members (suc steps) top above each all =
    let into = (λ (l : Label). place_at above l ∷ below members steps (Some l.name) (above ++ l ∷ [])) in
    all-flat into (λ (p : Place). (n : ℕ) → P (take n (labels_of p))) (labels_on members top)
    (all-weaker (λ (l : Label). AllByRecursion (λ (p : Place). P (labels_of p)) (into l))
    (λ (l : Label). AllByRecursion (λ (p : Place). (n : ℕ) → P (take n (labels_of p))) (into l))
    (labels_on members top)
    (λ l has. (
      begins-more P above l each has.0,
      below-begin P members steps (Some l.name) (above ++ l ∷ []) (begins-more P above l each has.0) has.1,
    )) (all-unflat into (λ (p : Place). P (labels_of p)) (labels_on members top) all))

take-none : (n : ℕ) → take {A = Label} n [] ≡ []
take-none zero = refl
take-none (suc n) = refl

-- what holds of all ways of a tick, and of the one to the processor, holds of all that they begin with
pub ways-begin : (P : List Label → Type 0) (c : Content) (t : ℕ) → P [] → AllByRecursion P (ways_at c t)
    → AllByRecursion (λ way. (n : ℕ) → P (take n way)) (ways_at c t)
ways-begin P c t top all =
    all-mapped labels_of (λ way. (n : ℕ) → P (take n way)) (places_at c t)
    (below-begin P (in_order (tree_at t c.answered) (standing_at c t)) (length (tree_at t c.answered)) None []
    (λ n. subst P (sym (take-none n)) top) (all-unmapped labels_of P (places_at c t) all))

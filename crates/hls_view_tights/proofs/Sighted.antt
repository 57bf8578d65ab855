-- The least surpluses of stays, as they are seen.
use Rattle.std.proofs.Common.{◌≡◌, ℕ, ◌+◌, ◌<◌, List, [], ◌∷◌, ◌++◌, Bool, true, false, refl, sym, ap, ◌∙◌}
use Rattle.std.proofs.Common.{◌&&◌, ◌||◌, cond, take, length, get_or, map, filter}
use Rattle.std.specs.Prelude.{Option, Some, None}
use Rattle.std.specs.List.{list_any, flat_map}
use Rattle.std.proofs.lemmas.List.{take_more, map-append}
use Rattle.std.proofs.lemmas.List.Elements.{filter-append}
use Rattle.std.proofs.lemmas.List.Folds.{list_any-append}
use Rattle.std.proofs.lemmas.Grind.{flat_map-append}
use Rattle.hls_report_text.specs.Content.{Content}
use Rattle.hls_view_scale.specs.declared.scale.Scale.{Scale}
use Rattle.hls_view_tale.specs.declared.label.Label.{Label}
use Rattle.hls_view_tale.specs.declared.place.Place.{Place}
use Rattle.hls_view_tale.specs.Places.{labels_of}
use Rattle.hls_view_tale.specs.Hierarchies.{places_at}
use Rattle.hls_view_lanes.specs.Likeness.{is_same}
use Rattle.hls_view_lanes.specs.Leaves.{is_leaf}
use Rattle.hls_view_margins.specs.declared.margin.Margin.{Margin}
use Rattle.hls_view_tights.specs.declared.tights.Tight.{Tight}
use Rattle.hls_view_tights.specs.declared.sightings.Sighting.{Sighting}
use Rattle.hls_view_tights.specs.Tights.{is_shown, first_shown, has_place, has_row, least_of, listed, tights_in}
use Rattle.hls_view_tights.specs.Inside.Sightings.{has, seen_in, tights_by, IsSighting}

append_nothing : {A : Type 0} (xs : List A) → xs ++ [] ≡ xs
append_nothing [] = refl
append_nothing (x ∷ xs) = ap (λ l. x ∷ l) (append_nothing xs)

-- ---- a place more

next_place : (q : Place → Bool) (all : List Place) (i : ℕ) (p : Place) → i < length all → p ≡ get_or all i p
    → list_any q (take (i + 1) all) ≡ (list_any q (take i all) || (q p || false))
next_place q all i p lt is =
    ap (list_any q) (take_more all i p lt ∙ ap (λ (x : Place). take i all ++ x ∷ []) (sym is))
    ∙ list_any-append q (take i all) (p ∷ [])

and_on : (a : Bool) → (a && true) ≡ a
and_on true = refl
and_on false = refl

or_off : (a b : Bool) → (a || ((b && false) || false)) ≡ a
or_off true b = refl
or_off false true = refl
or_off false false = refl

pub way_put : (row : List Label) (on : Place → Bool) (all : List Place) (i : ℕ) (p : Place)
    (old new : List (List Label)) → i < length all → p ≡ get_or all i p → on p ≡ true → new ≡ old ++ labels_of p ∷ []
    → list_any (is_same row) old ≡ list_any (λ (q : Place). is_same row (labels_of q) && on q) (take i all)
    → list_any (is_same row) new ≡ list_any (λ (q : Place). is_same row (labels_of q) && on q) (take (i + 1) all)
way_put row on all i p old new lt is passes put was =
    let q = λ (x : Place). is_same row (labels_of x) && on x in
    ap (list_any (is_same row)) put ∙ list_any-append (is_same row) old (labels_of p ∷ [])
    ∙ ap (λ b. b || (is_same row (labels_of p) || false)) was
    ∙ ap (λ b. list_any q (take i all) || (b || false))
    (sym (and_on (is_same row (labels_of p))) ∙ ap (λ b. is_same row (labels_of p) && b) (sym passes))
    ∙ sym (next_place q all i p lt is)

pub way_left : (row : List Label) (on : Place → Bool) (all : List Place) (i : ℕ) (p : Place)
    (old new : List (List Label)) → i < length all → p ≡ get_or all i p → on p ≡ false → new ≡ old
    → list_any (is_same row) old ≡ list_any (λ (q : Place). is_same row (labels_of q) && on q) (take i all)
    → list_any (is_same row) new ≡ list_any (λ (q : Place). is_same row (labels_of q) && on q) (take (i + 1) all)
way_left row on all i p old new lt is off put was =
    let q = λ (x : Place). is_same row (labels_of x) && on x in
    ap (list_any (is_same row)) put ∙ was
    ∙ sym (or_off (list_any q (take i all)) (is_same row (labels_of p)))
    ∙ ap (λ b. list_any q (take i all) || ((is_same row (labels_of p) && b) || false)) (sym off)
    ∙ sym (next_place q all i p lt is)

-- ---- what one stay adds

filtered : (f : Margin → List Tight) (m : Margin) (on : Bool) → flat_map f (cond on (m ∷ []) [])
    ≡ cond on (f m ++ []) []
filtered f m true = refl
filtered f m false = refl

none_either_way : {A : Type 0} (b : Bool) → cond {A = List A} b [] [] ≡ []
none_either_way true = refl
none_either_way false = refl

by_least : (c : Content) (s : Scale) (row : List Label) (m : Margin) (tight : Option Tight)
    → least_of m.spare ≡ tight → tights_by c s row m ≡ cond (has_row c s row m) (listed tight ++ []) []
by_least c s row m tight is =
    filtered (λ (x : Margin). listed (least_of x.spare)) m (has_row c s row m)
    ∙ ap (λ (t : Option Tight). cond (has_row c s row m) (listed t ++ []) []) is

pub unjudged : (c : Content) (s : Scale) (row : List Label) (m : Margin) → least_of m.spare ≡ None
    → tights_by c s row m ≡ []
unjudged c s row m is = by_least c s row m None is ∙ none_either_way (has_row c s row m)

and_none : (a b : Bool) → (a && false && b) ≡ false
and_none true b = refl
and_none false b = refl

pub unseen : (c : Content) (s : Scale) (row : List Label) (m : Margin) → is_shown s m ≡ false
    → tights_by c s row m ≡ []
unseen c s row m off =
    let not : has_row c s row m ≡ false =
    ap (λ b. is_leaf row && b && has_place row m.name (places_at c (first_shown s m))) off
    ∙ and_none (is_leaf row) (has_place row m.name (places_at c (first_shown s m))) in
    filtered (λ (x : Margin). listed (least_of x.spare)) m (has_row c s row m)
    ∙ ap (λ b. cond b (listed (least_of m.spare) ++ []) []) not

pub sighted : (c : Content) (s : Scale) (row : List Label) (m : Margin) (tight : Tight) (g : Sighting)
    → least_of m.spare ≡ Some tight → is_shown s m ≡ true → IsSighting c s m tight g
    → tights_by c s row m ≡ cond (has row g) (g.tight ∷ []) []
sighted c s row m tight g is on seen =
    by_least c s row m (Some tight) is
    ∙ ap (λ b. cond (is_leaf row && b && has_place row m.name (places_at c (first_shown s m))) (tight ∷ []) []) on
    ∙ ap (λ b. cond (b && has_place row m.name (places_at c (first_shown s m))) (tight ∷ []) []) (and_on (is_leaf row))
    ∙ ap (λ b. cond (is_leaf row && b) (tight ∷ []) []) (sym (seen.ways row))
    ∙ ap (λ (t : Tight). cond (has row g) (t ∷ []) []) (sym seen.tight_is)

mapped : (g : Sighting) (b : Bool) → map (λ (x : Sighting). x.tight) (cond b (g ∷ []) []) ≡ cond b (g.tight ∷ []) []
mapped g true = refl
mapped g false = refl

pub seen_more : (row : List Label) (all : List Sighting) (g : Sighting)
    → seen_in row (all ++ g ∷ []) ≡ seen_in row all ++ cond (has row g) (g.tight ∷ []) []
seen_more row all g =
    ap (map (λ (x : Sighting). x.tight)) (filter-append (has row) all (g ∷ []))
    ∙ map-append (λ (x : Sighting). x.tight) (filter (has row) all) (cond (has row g) (g ∷ []) [])
    ∙ ap (λ (l : List Tight). seen_in row all ++ l) (mapped g (has row g))

pub nothing_more : (row : List Label) (all : List Sighting) (more : List Tight) → more ≡ []
    → seen_in row all ≡ seen_in row all ++ more
nothing_more row all more none =
    sym (append_nothing (seen_in row all)) ∙ ap (λ (l : List Tight). seen_in row all ++ l) (sym none)

pub one_more : (c : Content) (s : Scale) (row : List Label) (m : Margin) (tight : Tight) (g : Sighting)
    (old new : List Sighting) → least_of m.spare ≡ Some tight → is_shown s m ≡ true → IsSighting c s m tight g
    → new ≡ old ++ g ∷ [] → seen_in row new ≡ seen_in row old ++ tights_by c s row m
one_more c s row m tight g old new is on seen put =
    ap (seen_in row) put ∙ seen_more row old g
    ∙ ap (λ (l : List Tight). seen_in row old ++ l) (sym (sighted c s row m tight g is on seen))

-- ---- stay by stay

pub next_stay : (c : Content) (s : Scale) (row : List Label) (all : List Margin) (i : ℕ) (m : Margin) → i < length all
    → m ≡ get_or all i m
    → tights_in c s row (take (i + 1) all) ≡ tights_in c s row (take i all) ++ tights_by c s row m
next_stay c s row all i m lt is =
    let f = λ (x : Margin). listed (least_of x.spare) in
    ap (tights_in c s row) (take_more all i m lt ∙ ap (λ (x : Margin). take i all ++ x ∷ []) (sym is))
    ∙ ap (flat_map f) (filter-append (has_row c s row) (take i all) (m ∷ []))
    ∙ flat_map-append f (filter (has_row c s row) (take i all)) (cond (has_row c s row m) (m ∷ []) [])

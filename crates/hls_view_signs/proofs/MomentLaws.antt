-- What happens in ticks, as they come.
use Rattle.std.proofs.Common.{◌≡◌, ℕ, ◌+◌, ◌<◌, ◌≤◌, List, [], ◌∷◌, ◌++◌, Bool, true, false, refl, sym, ap, ◌∙◌}
use Rattle.std.proofs.Common.{◌&&◌, ◌||◌, ◌⊎◌, inl, inr, cond, take, length, get_or, subst, map, filter}
use Rattle.std.specs.Prelude.{Option, Some, None}
use Rattle.std.specs.List.{list_any, AllByRecursion}
use Rattle.std.proofs.lemmas.Bool.{eqb-true, eq-eqb}
use Rattle.std.proofs.lemmas.List.{take_more, take_all, map-append}
use Rattle.std.proofs.lemmas.List.Elements.{filter-append}
use Rattle.std.proofs.lemmas.List.Folds.{list_any-append}
use Rattle.hls_report_text.specs.Content.{Content}
use Rattle.hls_view_scale.specs.declared.scale.Scale.{Scale}
use Rattle.hls_view_tale.specs.declared.label.Label.{Label}
use Rattle.hls_view_tale.specs.declared.place.Place.{Place}
use Rattle.hls_view_tale.specs.declared.standing.Standing.{Standing}
use Rattle.hls_view_tale.specs.Places.{labels_of}
use Rattle.hls_view_tale.specs.Hierarchies.{places_at}
use Rattle.hls_view_lanes.specs.Likeness.{is_same}
use Rattle.hls_view_signs.specs.declared.event.Event.{Event}
use Rattle.hls_view_signs.specs.declared.event.Event.TheVariants.{Begun, Woken, Dropped}
use Rattle.hls_view_signs.specs.declared.moments.Moment.{Moment}
use Rattle.hls_view_signs.specs.declared.notes.Note.{Note}
use Rattle.hls_view_signs.specs.Happenings.{happens_if, happens_to, happens_in}
use Rattle.hls_view_signs.specs.Inside.Moments.{has, is_at, IsMoment, IsOf, IsPut, IsShown, AreMomentsOf, AreMoments}
use Rattle.hls_view_signs.specs.Inside.Notes.{is_in, AreNotes}
use Rattle.hls_view_signs.specs.Inside.Nodes.{node_with, happens_to_any}
use Rattle.hls_view_signs.proofs.Tests.{either, or_left, or_right, all_append, all_weaker}
use Rattle.hls_view_signs.proofs.CommandLaws.{happens_noted}

pub node_happens : (c : Content) (t : ℕ) (event : Event) (label : Label) (s : Option Standing)
    → happens_to_any c t event (node_with label s) ≡ happens_if c t event label s
node_happens c t event label None = refl
node_happens c t event label (Some s) = refl

append_nothing : {A : Type 0} (xs : List A) → xs ++ [] ≡ xs
append_nothing [] = refl
append_nothing (x ∷ xs) = ap (λ l. x ∷ l) (append_nothing xs)

-- ---- in a row

and_on : (a : Bool) → (a && true) ≡ a
and_on true = refl
and_on false = refl

and_off : (a : Bool) → (a && false) ≡ false
and_off true = refl
and_off false = refl

way_kept : (f : List Label → Bool) (p : Place) (ps : List Place) (rest on : Bool)
    → list_any f (map labels_of ps) ≡ rest
    → list_any f (map labels_of (cond on (p ∷ ps) ps)) ≡ ((f (labels_of p) && on) || rest)
way_kept f p ps rest true is = ap (λ b. f (labels_of p) || b) is ∙ ap (λ b. b || rest) (sym (and_on (f (labels_of p))))
way_kept f p ps rest false is = is ∙ ap (λ b. b || rest) (sym (and_off (f (labels_of p))))

ways_kept : (f : List Label → Bool) (on : Place → Bool) (ps : List Place)
    → list_any f (map labels_of (filter on ps)) ≡ list_any (λ p. f (labels_of p) && on p) ps
ways_kept f on [] = refl
ways_kept f on (p ∷ ps) =
    way_kept f p (filter on ps) (list_any (λ q. f (labels_of q) && on q) ps) (on p) (ways_kept f on ps)

pub has_is : (c : Content) (event : Event) (row : List Label) (m : Moment) → IsMoment c m
    → has event row m ≡ happens_in c event row m.tick
has_is c Begun row m is =
    ap (list_any (is_same row)) is.begun
    ∙ ways_kept (is_same row) (λ p. happens_to c m.tick Begun p.label) (places_at c m.tick)
has_is c Woken row m is =
    ap (list_any (is_same row)) is.woken
    ∙ ways_kept (is_same row) (λ p. happens_to c m.tick Woken p.label) (places_at c m.tick)
has_is c Dropped row m is =
    ap (list_any (is_same row)) is.dropped
    ∙ ways_kept (is_same row) (λ p. happens_to c m.tick Dropped p.label) (places_at c m.tick)

-- ---- one place more

next_place : (on : Place → Bool) (all : List Place) (i : ℕ) (p : Place) → i < length all → p ≡ get_or all i p
    → map labels_of (filter on (take (i + 1) all))
    ≡ map labels_of (filter on (take i all)) ++ map labels_of (cond (on p) (p ∷ []) [])
next_place on all i p lt is =
    ap (λ ps. map labels_of (filter on ps)) (take_more all i p lt ∙ ap (λ (x : Place). take i all ++ x ∷ []) (sym is))
    ∙ ap (map labels_of) (filter-append on (take i all) (p ∷ []))
    ∙ map-append labels_of (filter on (take i all)) (cond (on p) (p ∷ []) [])

pub place_kept : (on : Place → Bool) (all : List Place) (i : ℕ) (p : Place) (old new : List (List Label))
    → i < length all → p ≡ get_or all i p → on p ≡ true → new ≡ old ++ labels_of p ∷ []
    → old ≡ map labels_of (filter on (take i all)) → new ≡ map labels_of (filter on (take (i + 1) all))
place_kept on all i p old new lt is passes put was =
    put ∙ ap (λ (ws : List (List Label)). ws ++ labels_of p ∷ []) was
    ∙ ap (λ b. map labels_of (filter on (take i all)) ++ map labels_of (cond b (p ∷ []) [])) (sym passes)
    ∙ sym (next_place on all i p lt is)

pub place_left : (on : Place → Bool) (all : List Place) (i : ℕ) (p : Place) (old new : List (List Label))
    → i < length all → p ≡ get_or all i p → on p ≡ false → new ≡ old
    → old ≡ map labels_of (filter on (take i all)) → new ≡ map labels_of (filter on (take (i + 1) all))
place_left on all i p old new lt is off put was =
    put ∙ was ∙ sym (append_nothing (map labels_of (filter on (take i all))))
    ∙ ap (λ b. map labels_of (filter on (take i all)) ++ map labels_of (cond b (p ∷ []) [])) (sym off)
    ∙ sym (next_place on all i p lt is)

-- ---- one note more

pub put_none : (c : Content) (t : ℕ) (all : List Moment) → list_any (is_at t) all ≡ true → IsPut c t all all
put_none c t all there =
    record { more = []; behind = sym (append_nothing all); are = tt; there = there }

pub put_one : (c : Content) (t : ℕ) (m : Moment) (old new : List Moment) → IsOf c t m → new ≡ old ++ m ∷ []
    → IsPut c t old new
put_one c t m old new is put = record {
  more = m ∷ [];
  behind = put;
  are = (is, tt);
  there = ap (list_any (is_at t)) put ∙ list_any-append (is_at t) old (m ∷ [])
      ∙ or_right (list_any (is_at t) old) (is_at t m || false) (or_left (is_at t m) false (eq-eqb m.tick t is.tick));
}

next_taken : (all : List Note) (i : ℕ) (a : Note) → i < length all → a ≡ get_or all i a
    → take (i + 1) all ≡ take i all ++ a ∷ []
next_taken all i a lt is = take_more all i a lt ∙ ap (λ x. take i all ++ x ∷ []) (sym is)

now_in : (t : ℕ) (a : Note) → (is_in t a || false) ≡ true → a.tick ≡ t
now_in t a some = elim (either (is_in t a) false some) [
  | inl now ↦ eqb-true a.tick t now
  | inr off ↦ absurd (let wrong : false ≡ true = off in cc)
]

any_taken : (t : ℕ) (all : List Note) (i : ℕ) (a : Note) → i < length all → a ≡ get_or all i a
    → list_any (is_in t) (take (i + 1) all) ≡ true → (list_any (is_in t) (take i all) ≡ true) ⊎ (a.tick ≡ t)
any_taken t all i a lt is some =
    let split = sym (list_any-append (is_in t) (take i all) (a ∷ []))
    ∙ sym (ap (list_any (is_in t)) (next_taken all i a lt is)) ∙ some in
    elim (either (list_any (is_in t) (take i all)) (is_in t a || false) split) [
      | inl before ↦ inl before
      | inr here ↦ inr (now_in t a here)
    ]

pub moments_put : (c : Content) (s : Scale) (all : List Note) (i : ℕ) (a : Note) (old new : List Moment)
    → i < length all → a ≡ get_or all i a → s.from ≤ a.tick → a.tick ≤ s.to → IsPut c a.tick old new
    → AreMomentsOf c s (take i all) old → AreMomentsOf c s (take (i + 1) all) new
moments_put c s all i a old new lt is from to put was = record {
  are = subst (AllByRecursion (IsShown c s)) (sym put.behind)
      (all_append (IsShown c s) old put.more was.are
      (all_weaker (IsOf c a.tick) (IsShown c s) put.more (λ m of. record {
        is = of.is;
        begins = subst (λ n. s.from ≤ n) (sym of.tick) from;
        ends = subst (λ n. n ≤ s.to) (sym of.tick) to;
      }) put.are));
  each = λ t begins ends some. elim (any_taken t all i a lt is some) [
    | inl before ↦
        ap (list_any (is_at t)) put.behind ∙ list_any-append (is_at t) old put.more
        ∙ or_left (list_any (is_at t) old) (list_any (is_at t) put.more) (was.each t begins ends before)
    | inr here ↦ subst (λ n. list_any (is_at n) new ≡ true) here put.there
  ];
}

pub moments_left : (c : Content) (s : Scale) (all : List Note) (i : ℕ) (a : Note) (old : List Moment)
    → i < length all → a ≡ get_or all i a → (s.from ≤ a.tick → a.tick ≤ s.to → ⊥)
    → AreMomentsOf c s (take i all) old → AreMomentsOf c s (take (i + 1) all) old
moments_left c s all i a old lt is beyond was = record {
  are = was.are;
  each = λ t begins ends some. elim (any_taken t all i a lt is some) [
    | inl before ↦ was.each t begins ends before
    | inr here ↦
        absurd (beyond (subst (λ n. s.from ≤ n) (sym here) begins) (subst (λ n. n ≤ s.to) (sym here) ends))
  ];
}

pub moments_none : (c : Content) (s : Scale) (all : List Note) → AreMomentsOf c s (take 0 all) []
moments_none c s all = record { are = tt; each = λ t begins ends some. some }

-- something happens in noted ticks alone
pub moments_all : (c : Content) (s : Scale) (notes : List Note) (i : ℕ) (all : List Moment) → length notes ≤ i
    → AreNotes c s notes → AreMomentsOf c s (take i notes) all → AreMoments c s all
moments_all c s notes i all end are of = record {
  are = of.are;
  each = λ t from to event row on. of.each t from to
      (subst (λ (l : List Note). list_any (is_in t) l ≡ true) (sym (take_all i notes end))
      (happens_noted c s notes are t from to event row on));
}

-- Ways in the order of ports.
use Rattle.std.proofs.Common.{◌≡◌, ◌∙◌, ℕ, ◌+◌, ◌<◌, List, [], ◌∷◌, ◌++◌, ap}
use Rattle.std.proofs.Common.{sym, map, length, get_or, take, refl, arith}
use Rattle.std.specs.Prelude.{true, false, cond, filter, fold, nat_lt, ◌==◌, ◌&&◌, ◌||◌, reverse}
use Rattle.std.proofs.lemmas.List.{map-append, reverse-append, take_more}
use Rattle.std.proofs.lemmas.List.Elements.{filter-append}
use Rattle.std.proofs.lemmas.List.Sums.{fold-append}
use Rattle.hls_text.specs.Lines.{Text}
use Rattle.hls_view_tale.specs.declared.label.Label.{Label}
use Rattle.hls_view_tale.specs.declared.place.Place.{Place}
use Rattle.hls_view_tale.specs.Places.{labels_of}
use Rattle.hls_view_timeline.specs.Ways.{parts_before, comes_before, with_way, has_name, ways_among}

pub from_ends : (one other above beyond : List Label) (l m : Label) → one ≡ above ++ l ∷ []
    → other ≡ beyond ++ m ∷ []
    → comes_before one other ≡ (nat_lt l.port m.port || (l.port == m.port && comes_before above beyond))
from_ends one other above beyond l m e f =
    ap (λ (a : List Label). parts_before a (reverse other)) (ap reverse e ∙ reverse-append above (l ∷ []))
    ∙ ap (λ (b : List Label). parts_before (l ∷ reverse above) b) (ap reverse f ∙ reverse-append beyond (m ∷ []))

pub none_before : (one other : List Label) → length one ≡ 0 → comes_before one other ≡ false
none_before [] other none = refl
none_before (l ∷ one) other none = absurd (omega (arith, none))

-- ---- place by place

next_place : (name : Text) (places : List Place) (i : ℕ) (p : Place) → i < length places → p ≡ get_or places i p
    → ways_among name (take (i + 1) places)
    ≡ fold with_way (ways_among name (take i places)) (map labels_of (cond (has_name name p) (p ∷ []) []))
next_place name places i p lt is =
    let kept = filter (has_name name) (take i places) in
    let here : List Place = cond (has_name name p) (p ∷ []) [] in
    ap (ways_among name) (take_more places i p lt ∙ ap (λ (x : Place). take i places ++ x ∷ []) (sym is))
    ∙ ap (λ (l : List Place). fold with_way [] (map labels_of l))
    (filter-append (has_name name) (take i places) (p ∷ []))
    ∙ ap (fold with_way []) (map-append labels_of kept here)
    ∙ fold-append with_way [] (map labels_of kept) (map labels_of here)

pub way_kept : (name : Text) (places : List Place) (i : ℕ) (p : Place) (old new : List (List Label))
    → i < length places → p ≡ get_or places i p → has_name name p ≡ true → new ≡ with_way old (labels_of p)
    → old ≡ ways_among name (take i places) → new ≡ ways_among name (take (i + 1) places)
way_kept name places i p old new lt is on put was =
    put ∙ ap (λ (ways : List (List Label)). with_way ways (labels_of p)) was
    ∙ ap (λ b. fold with_way (ways_among name (take i places)) (map labels_of (cond b (p ∷ []) []))) (sym on)
    ∙ sym (next_place name places i p lt is)

pub way_left : (name : Text) (places : List Place) (i : ℕ) (p : Place) (old new : List (List Label))
    → i < length places → p ≡ get_or places i p → has_name name p ≡ false → new ≡ old
    → old ≡ ways_among name (take i places) → new ≡ ways_among name (take (i + 1) places)
way_left name places i p old new lt is off put was =
    put ∙ was
    ∙ ap (λ b. fold with_way (ways_among name (take i places)) (map labels_of (cond b (p ∷ []) []))) (sym off)
    ∙ sym (next_place name places i p lt is)

-- A stack of places that are still to be gone into.
use Rattle.std.proofs.Common.{◌≡◌, ℕ, zero, suc, ◌<◌, List, [], ◌∷◌, ◌++◌, refl, sym, ap, ◌∙◌, subst, arith}
use Rattle.std.proofs.Common.{map, length}
use Rattle.std.specs.Prelude.{Option, Some, flat_map, reverse}
use Rattle.std.proofs.lemmas.List.{append-nil, append_assoc, map-append, reverse-append, reverse-reverse}
use Rattle.std.proofs.lemmas.List.Folds.{flat_map-map}
use Rattle.std.proofs.lemmas.Grind.{flat_map-append}
use Rattle.hls_text.specs.Lines.{Text}
use Rattle.hls_audit_clauses.specs.declared.member.Member.{Member}
use Rattle.hls_view_tale.specs.declared.label.Label.{Label}
use Rattle.hls_view_tale.specs.declared.place.Place.{Place}
use Rattle.hls_view_tale.specs.declared.walking.Pending.{Pending}
use Rattle.hls_view_tale.specs.Places.{labels_of, labels_on, below}
use Rattle.hls_view_tale.specs.Inside.Pending.{pending_at, gone_into, next_below, gone_into_all}

-- going into all places directly below others is to have all that is below
pub below_each : (members : List Member) (left : ℕ) (above : List Label) (labels : List Label) (top : Option Text)
    → labels ≡ labels_on members top
    → flat_map (gone_into members) (map (pending_at above left) labels) ≡ below members (suc left) top above
unfolding below
below_each members left above labels top is =
    flat_map-map (gone_into members) (pending_at above left) labels
    ∙ ap (λ (l : List Label). flat_map (λ l. gone_into members (pending_at above left l)) l) is

below_none : (members : List Member) (place : Place)
    → [] ≡ below members zero (Some place.label.name) (labels_of place)
unfolding below
below_none members place = refl

next_gone : (members : List Member) (left : ℕ) (place : Place)
    → flat_map (gone_into members) (next_below members left place)
    ≡ below members left (Some place.label.name) (labels_of place)
next_gone members zero place = below_none members place
next_gone members (suc left) place =
    below_each members left (labels_of place) (labels_on members (Some place.label.name)) (Some place.label.name) refl

-- the top of a stack goes, and those directly below it come
pub gone_next : (members : List Member) (stack rest new : List Pending) (next : Pending) → stack ≡ rest ++ next ∷ []
    → new ≡ rest ++ reverse (next_below members next.left next.place)
    → gone_into_all members stack ≡ next.place ∷ gone_into_all members new
gone_next members stack rest new next old is =
    let nb = next_below members next.left next.place in
    let low = below members next.left (Some next.place.label.name) (labels_of next.place) in
    let left : gone_into_all members stack ≡ next.place ∷ (low ++ gone_into_all members rest) =
    ap (gone_into_all members) old
    ∙ ap (flat_map (gone_into members)) (reverse-append rest (next ∷ [])) in
    let right : gone_into_all members new ≡ low ++ gone_into_all members rest =
    ap (gone_into_all members) is
    ∙ ap (flat_map (gone_into members)) (reverse-append rest (reverse nb)
    ∙ ap (λ (l : List Pending). l ++ reverse rest) (reverse-reverse nb))
    ∙ flat_map-append (gone_into members) nb (reverse rest)
    ∙ ap (λ (l : List Place). l ++ gone_into_all members rest) (next_gone members next.left next.place) in
    left ∙ ap (λ (l : List Place). next.place ∷ l) (sym right)

-- what was found, and what is still to be gone into, are the whole
abbrev pub AreFound : (members : List Member) (found : List Place) (stack : List Pending) (whole : List Place) → Type 0
AreFound members found stack whole = found ++ gone_into_all members stack ≡ whole

pub found_more : (members : List Member) (found more : List Place) (stack rest new : List Pending) (next : Pending)
    (whole : List Place) → stack ≡ rest ++ next ∷ []
    → new ≡ rest ++ reverse (next_below members next.left next.place) → more ≡ found ++ next.place ∷ []
    → AreFound members found stack whole → AreFound members more new whole
found_more members found more stack rest new next whole old is grown are =
    ap (λ (l : List Place). l ++ gone_into_all members new) grown
    ∙ append_assoc found (next.place ∷ []) (gone_into_all members new)
    ∙ ap (λ (l : List Place). found ++ l) (sym (gone_next members stack rest new next old is))
    ∙ are

pub gone_fewer : (members : List Member) (stack rest new : List Pending) (next : Pending) → stack ≡ rest ++ next ∷ []
    → new ≡ rest ++ reverse (next_below members next.left next.place)
    → length (gone_into_all members new) < length (gone_into_all members stack)
gone_fewer members stack rest new next old is =
    let e = ap (λ (l : List Place). length l) (gone_next members stack rest new next old is) in omega (arith, e)

-- a stack of all that is directly below the top
pub from_top : (members : List Member) (left : ℕ) (labels : List Label) (top : Option Text) (stack : List Pending)
    → labels ≡ labels_on members top → stack ≡ reverse (map (pending_at [] left) labels)
    → gone_into_all members stack ≡ below members (suc left) top []
from_top members left labels top stack is e =
    ap (λ (l : List Pending). flat_map (gone_into members) (reverse l)) e
    ∙ ap (flat_map (gone_into members)) (reverse-reverse (map (pending_at [] left) labels))
    ∙ below_each members left [] labels top is

-- places that stand on a stack, and those that are still to be put onto it, are the whole
abbrev pub ArePushed : (above : List Label) (left : ℕ) (stack : List Pending) (labels : List Label)
    (whole : List Pending) → Type 0
ArePushed above left stack labels whole = stack ++ reverse (map (pending_at above left) labels) ≡ whole

pub pushed_more : (above : List Label) (left : ℕ) (stack more : List Pending) (labels rest : List Label) (label : Label)
    (whole : List Pending) → labels ≡ rest ++ label ∷ [] → more ≡ stack ++ pending_at above left label ∷ []
    → ArePushed above left stack labels whole → ArePushed above left more rest whole
pushed_more above left stack more labels rest label whole old new are =
    let f = pending_at above left in
    ap (λ (l : List Pending). l ++ reverse (map f rest)) new
    ∙ append_assoc stack (f label ∷ []) (reverse (map f rest))
    ∙ ap (λ (l : List Pending). stack ++ l) (sym (ap (λ (l : List Label). reverse (map f l)) old
    ∙ ap reverse (map-append f rest (label ∷ []))
    ∙ reverse-append (map f rest) (f label ∷ [])))
    ∙ are

pub pushed_all : (above : List Label) (left : ℕ) (stack : List Pending) (labels : List Label) (whole : List Pending)
    → labels ≡ [] → ArePushed above left stack labels whole → stack ≡ whole
pushed_all above left stack labels whole none are =
    sym (append-nil stack)
    ∙ subst (λ (l : List Label). stack ++ reverse (map (pending_at above left) l) ≡ whole) none are

pub none_below : (members : List Member) (top : Option Text) → [] ≡ below members 0 top []
unfolding below
none_below members top = refl

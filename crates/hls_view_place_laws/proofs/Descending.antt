-- Places are ways down, each once.
use Rattle.std.proofs.Common.{◌≡◌, ℕ, zero, suc, ◌<◌, List, [], ◌∷◌, ◌++◌, inl, inr}
use Rattle.std.proofs.Common.{refl, sym, ap, subst, ◌∙◌, length, arith}
use Rattle.std.specs.Prelude.{Option, Some, flat_map}
use Rattle.std.proofs.lemmas.List.{append_assoc, append_cancel_left, length-append, same_from_push}
use Rattle.hls_text.specs.Lines.{Text}
use Rattle.hls_audit_clauses.specs.declared.member.Member.{Member}
use Rattle.hls_view_tale.specs.declared.label.Label.{Label}
use Rattle.hls_view_tale.specs.declared.place.Place.{Place}
use Rattle.hls_view_tale.specs.Places.{labels_on, place_at, labels_of, below}
use Rattle.hls_view_place_laws.specs.Ways.{IsWayDown}
use Rattle.hls_view_place_laws.proofs.Among.{IsIn, AreOnce, in-flat, of-flat, once-flat}
use Rattle.hls_view_place_laws.proofs.Seats.{names_of}
use Rattle.hls_view_place_laws.proofs.Labels.{of-labels, in-labels, labels-once, seat-among}

pub record IsBelow (members : List Member) (top : Option Text) (above : List Label) (place : Place) : Type 0 where
  pub first : Label
  pub rest : List Label
  pub down : IsWayDown members top (first ∷ rest)
  pub is : labels_of place ≡ above ++ first ∷ rest

abbrev gone_into : List Member → (steps : ℕ) → (above : List Label) → Label → List Place
gone_into members steps above l = place_at above l ∷ below members steps (Some l.name) (above ++ l ∷ [])

below-step : (members : List Member) (steps : ℕ) (top : Option Text) (above : List Label)
    → below members (suc steps) top above ≡ flat_map (gone_into members steps above) (labels_on members top)
unfolding below
below-step members steps top above = refl

none-below : (members : List Member) (top : Option Text) (above : List Label) → below members zero top above ≡ []
unfolding below
none-below members top above = refl

pub of-below : (members : List Member) (steps : ℕ) (top : Option Text) (above : List Label) (place : Place)
    → IsIn place (below members steps top above) → IsBelow members top above place
of-below members zero top above place has =
    absurd (subst (λ (l : List Place). IsIn place l) (none-below members top above) has)
of-below members (suc steps) top above place has =
    let o = of-flat (gone_into members steps above) place (labels_on members top)
    (subst (λ (l : List Place). IsIn place l) (below-step members steps top above) has) in
    let seat = of-labels members top o.one o.has in
    elim o.there [
      | inl is ↦ record { first = o.one; rest = []; down = (seat, tt); is = ap labels_of (sym is) }
      | inr deeper ↦
          (let b = of-below members steps (Some o.one.name) (above ++ o.one ∷ []) place deeper in
          record {
            first = o.one;
            rest = b.first ∷ b.rest;
            down = (seat, b.down);
            is = b.is ∙ append_assoc above (o.one ∷ []) (b.first ∷ b.rest);
          })
    ]

pub in-below : (members : List Member) (steps : ℕ) (top : Option Text) (above : List Label) (first : Label)
    (rest : List Label) (place : Place) → IsWayDown members top (first ∷ rest) → length rest < steps
    → labels_of place ≡ above ++ first ∷ rest → IsIn place (below members steps top above)
in-below members zero top above first rest place down lt is = absurd (omega (arith, lt))
in-below members (suc steps) top above first [] place down lt is =
    let same = same_from_push place.above above place.label first is in
    subst (λ (l : List Place). IsIn place l) (sym (below-step members steps top above))
    (in-flat (gone_into members steps above) first place (labels_on members top) (in-labels members top first down.0)
    (inl (ap (λ (a : List Label). place_at a first) (sym same.0) ∙ ap (place_at place.above) (sym same.1))))
in-below members (suc steps) top above first (next ∷ rest) place down lt is =
    subst (λ (l : List Place). IsIn place l) (sym (below-step members steps top above))
    (in-flat (gone_into members steps above) first place (labels_on members top) (in-labels members top first down.0)
    (inr (in-below members steps (Some first.name) (above ++ first ∷ []) next rest place down.1 (omega (arith, lt))
    (is ∙ sym (append_assoc above (first ∷ []) (next ∷ rest))))))

-- ---- each once

-- all that is gone into from a label has it there
pub record Passes (above : List Label) (label : Label) (place : Place) : Type 0 where
  pub rest : List Label
  pub is : labels_of place ≡ above ++ label ∷ rest

passes : (members : List Member) (steps : ℕ) (above : List Label) (label : Label) (place : Place)
    → IsIn place (gone_into members steps above label) → Passes above label place
passes members steps above label place (inl is) = record { rest = []; is = ap labels_of (sym is) }
passes members steps above label place (inr deeper) =
    let b = of-below members steps (Some label.name) (above ++ label ∷ []) place deeper in
    record { rest = b.first ∷ b.rest; is = b.is ∙ append_assoc above (label ∷ []) (b.first ∷ b.rest) }

one-label : (above : List Label) (label other : Label) (place : Place) → Passes above label place
    → Passes above other place → label ≡ other
one-label above label other place p q =
    let same : label ∷ p.rest ≡ other ∷ q.rest =
    append_cancel_left above (label ∷ p.rest) (other ∷ q.rest) (sym p.is ∙ q.is) in
    cc

not-deeper : (members : List Member) (steps : ℕ) (above : List Label) (label : Label)
    → IsIn (place_at above label) (below members steps (Some label.name) (above ++ label ∷ [])) → ⊥
not-deeper members steps above label has =
    let b = of-below members steps (Some label.name) (above ++ label ∷ []) (place_at above label) has in
    let long = length-append (above ++ label ∷ []) (b.first ∷ b.rest) in
    let same : length (above ++ label ∷ []) ≡ length ((above ++ label ∷ []) ++ b.first ∷ b.rest) =
    ap (λ (l : List Label). length l) b.is in
    omega (arith, long, same)

pub below-once : (members : List Member) (steps : ℕ) (top : Option Text) (above : List Label)
    → AreOnce (names_of members) → AreOnce (below members steps top above)
below-once members zero top above once = subst AreOnce (sym (none-below members top above)) tt
below-once members (suc steps) top above once =
    subst AreOnce (sym (below-step members steps top above))
    (once-flat (gone_into members steps above) (labels_on members top) (labels-once members top once)
    (λ label has. (
      not-deeper members steps above label,
      below-once members steps (Some label.name) (above ++ label ∷ []) once,
    ))
    (λ label other place h k at_one at_other.
    one-label above label other place (passes members steps above label place at_one)
    (passes members steps above other place at_other)))

-- ---- the same members have the same ways

pub way-among : (members others : List Member) (top : Option Text) (way : List Label)
    → ((m : Member) → IsIn m members → IsIn m others) → IsWayDown members top way → IsWayDown others top way
way-among members others top [] all down = tt
way-among members others top (label ∷ way) all down =
    (seat-among members others top label all down.0, way-among members others (Some label.name) way all down.1)

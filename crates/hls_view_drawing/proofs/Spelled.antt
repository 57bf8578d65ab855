-- What is promised at a row can be spelled, since it is promised at a place.
use Rattle.std.proofs.Common.{◌≡◌, ◌∙◌, ℕ, zero, suc, ◌+◌, ◌-◌, List, [], ◌∷◌, ◌++◌, sym, subst, ap, refl, arith}
use Rattle.std.proofs.Common.{length, inl, inr}
use Rattle.std.specs.Prelude.{Some, None, Option, option_map, slice_get}
use Rattle.std.proofs.lemmas.Option.{slice_get-get_or, slice_get-map}
use Rattle.std.proofs.Math.Seq.{get_or-append_seam}
use Rattle.std.specs.List.{AllByRecursion}
use Rattle.hls_legal.proofs.ToldSteps.{each_same}
use Rattle.hls_report_text.specs.Content.{Content}
use Rattle.hls_report_text.specs.WellFormed.{IsContent}
use Rattle.hls_view_tale.specs.declared.label.Label.{Label}
use Rattle.hls_view_tale.specs.declared.place.Place.{Place}
use Rattle.hls_view_tale.specs.Places.{labels_of}
use Rattle.hls_view_tale.specs.Hierarchies.{places_at}
use Rattle.hls_view_tale.proofs.Promised.{IsPlaceValid, places_valid}
use Rattle.hls_view_lanes.specs.Rows.{rows_of}
use Rattle.hls_view_lanes.specs.Standing.{IsSomeWay}
use Rattle.hls_view_lanes.proofs.RowLaws.{rows-are-ways}
use Rattle.hls_view_drawing.specs.Rows.{last_label}
use Rattle.hls_view_drawing.specs.Inside.Valid.{IsValidAt, AreValid}

-- ---- lists

all_at : {X : Type 0} (P : X → Type 0) (xs : List X) (n : ℕ) (x : X) → AllByRecursion P xs → slice_get xs n ≡ Some x
    → P x
all_at P [] n x all is = absurd (cc)
all_at P (y ∷ xs) zero x all is = (let same : y ≡ x = cc in subst P same all.0)
all_at P (y ∷ xs) (suc n) x all is = all_at P xs n x all.1 is

length-last : {X : Type 0} (xs : List X) (x : X) → length (xs ++ x ∷ []) ≡ length xs + 1
length-last [] x = omega arith
length-last (y ∷ xs) x = let more = length-last xs x in omega (arith, more)

last_is : (above : List Label) (label : Label) → last_label (above ++ label ∷ []) ≡ Some label
last_is above label =
    let long = length-last above label in
    let at : length (above ++ label ∷ []) - 1 ≡ length above = omega (arith, long) in
    ap (λ n. slice_get (above ++ label ∷ []) n) at
    ∙ slice_get-get_or (above ++ label ∷ []) (length above) label (omega (arith, long))
    ∙ ap (λ (l : Label). Some l) (get_or-append_seam above label [] label)

-- ---- rows

module _ (c : Content) (formed : IsContent c) where
  found_valid : (t number : ℕ) (row : List Label) (place : Option Place) → slice_get (places_at c t) number ≡ place
      → option_map labels_of place ≡ Some row → IsValidAt (last_label row)
  found_valid t number row None at is = absurd (cc)
  found_valid t number row (Some place) at is =
      let valid : IsPlaceValid place = all_at IsPlaceValid (places_at c t) number place (places_valid c t formed) at in
      let same : labels_of place ≡ row = cc in
      subst (λ r. IsValidAt (last_label r)) same
      (subst IsValidAt (sym (last_is place.above place.label)) valid)

  row_valid : (from ticks : ℕ) (row : List Label) → IsSomeWay c from ticks row → IsValidAt (last_label row)
  row_valid from ticks row some = elim some [
    | inl none ↦ subst (λ r. IsValidAt (last_label r)) (sym none) tt
    | inr way ↦
        found_valid (from + way.t) way.number row (slice_get (places_at c (from + way.t)) way.number) refl
        (sym (slice_get-map labels_of (places_at c (from + way.t)) way.number) ∙ way.there)
  ]

  pub rows_valid : (from ticks : ℕ) (rows : List (List Label)) → rows ≡ rows_of c from ticks → AreValid rows
  rows_valid from ticks rows are = subst AreValid (sym are)
      (each_same (IsSomeWay c from ticks) (λ row. IsValidAt (last_label row)) (rows_of c from ticks)
      (row_valid from ticks) (rows-are-ways c from ticks))

-- A name that is noted.
use Rattle.std.proofs.Common.{◌≡◌, ◌≢◌, ℕ, Option, Some, None, true, false}
use Rattle.std.proofs.Common.{refl, ap, sym, ◌∙◌, inl, inr}
use Rattle.std.specs.Prelude.{cond, is_some}
use Rattle.std.specs.Str.{bytes_eq}
use Rattle.std.proofs.lemmas.Bool.{cases_Bool}
use Rattle.std.proofs.lemmas.Slice.Eq.{bytes_eq-Decides}
use Rattle.hls_text.specs.Lines.{Text}
use Rattle.hls_audit_stays.specs.declared.places.Places.{Places}
use Rattle.hls_audit_stays.specs.Places.{place_in, noted, Notes}

noted_none : (place : Option ℕ) → noted place None ≡ place
noted_none None = refl
noted_none (Some place) = refl

noted_some : (place other : Option ℕ) → is_some place ≡ true → noted place other ≡ place
noted_some None other e = absurd (cc)
noted_some (Some place) other e = refl

-- it has a place
pub notes_again : (places : Places) (name : Text) (place : ℕ) → is_some (place_in places name) ≡ true
    → Notes places places name place
notes_again places name place there other = elim (cases_Bool (bytes_eq name other)) [
  | inl t ↦ (let same : name ≡ other = (bytes_eq-Decides name other).0 t in
      sym (noted_some (place_in places other) (cond (bytes_eq name other) (Some place) None)
      (ap (λ n. is_some (place_in places n)) (sym same) ∙ there)))
  | inr f ↦ sym (ap (λ b. noted (place_in places other) (cond b (Some place) None)) f
      ∙ noted_none (place_in places other))
]

-- it has none
pub notes_first : (old new : Places) (name : Text) (place : ℕ) → is_some (place_in old name) ≡ false
    → place_in new name ≡ Some place
    → ((other : Text) → other ≢ name → place_in new other ≡ place_in old other)
    → Notes old new name place
notes_first old new name place gone here others other = elim (cases_Bool (bytes_eq name other)) [
  | inl t ↦ (let same : name ≡ other = (bytes_eq-Decides name other).0 t in
      ap (place_in new) (sym same) ∙ here
      ∙ sym (ap (λ b. noted (place_in old other) (cond b (Some place) None)) t
      ∙ noted_gone (place_in old other) (Some place) (ap (λ n. is_some (place_in old n)) (sym same) ∙ gone)))
  | inr f ↦ (let ne : other ≢ name = (λ e. absurd (cc (sym f ∙ (bytes_eq-Decides name other).1 (sym e)))) in
      others other ne ∙ sym (ap (λ b. noted (place_in old other) (cond b (Some place) None)) f
      ∙ noted_none (place_in old other)))
]
  where
    noted_gone : (p q : Option ℕ) → is_some p ≡ false → noted p q ≡ q
    noted_gone None q e = refl
    noted_gone (Some p) q e = absurd (cc)

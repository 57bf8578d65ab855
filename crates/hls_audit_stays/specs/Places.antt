-- The places of names.
use Rattle.std.specs.Prelude.{◌≡◌, ◌≢◌, ℕ, Option, Some, None}
use Rattle.std.specs.Prelude.{if◌then◌else◌}
use Rattle.std.specs.Str.{bytes_eq}
use Rattle.indexmap.specs.IndexMap.{get, spare}
use Rattle.hls_text.specs.Lines.{Text}
use Rattle.hls_audit_stays.specs.declared.places.Places.{Places}

abbrev pub place_in : Places → (name : Text) → Option ℕ
place_in places name = get bytes_eq places.places name

-- room for more names
abbrev pub spare_of : Places → ℕ
spare_of places = spare places.places

-- the place that was noted before, or else this one
abbrev pub noted : Option ℕ → Option ℕ → Option ℕ
noted None place = place
noted (Some before) place = Some before

abbrev pub Notes : (old new : Places) → (name : Text) → (place : ℕ) → Type 0
Notes old new name place = (other : Text)
    → place_in new other ≡ noted (place_in old other) (if bytes_eq name other then Some place else None)

-- this place, whatever was noted before
pub record Sets (old new : Places) (name : Text) (place : ℕ) : Type 0 where
  pub here : place_in new name ≡ Some place
  pub others : (other : Text) → other ≢ name → place_in new other ≡ place_in old other

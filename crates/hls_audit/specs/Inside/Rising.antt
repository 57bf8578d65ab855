-- The names that are met on a way up.
use Rattle.std.specs.Prelude.{◌≡◌, ℕ, List, Bool, true, false, Some, is_some, slice_get}
use Rattle.std.specs.Str.{bytes_eq}
use Rattle.hls_text.specs.Lines.{Text}
use Rattle.hls_scenario.specs.declared.scenario.Spot.{Spot}
use Rattle.hls_scenario.specs.declared.scenario.Spot.TheVariants.{Cpu, Under}
use Rattle.hls_scenario.specs.declared.scenario.Perch.{Perch}
use Rattle.hls_legal.specs.Under.{is_on}
use Rattle.hls_audit_stays.specs.Places.{place_in}
use Rattle.hls_audit_clauses.specs.Names.{sits}
use Rattle.hls_audit.specs.declared.rising.Rising.{Rising}

-- a name that has a place stands there
abbrev pub AreNamed : Rising → Type 0
AreNamed r = (name : Text) (place : ℕ) → place_in r.places name ≡ Some place
    → slice_get r.names.items place ≡ Some name

abbrev pub IsMet : Rising → Spot → Type 0
IsMet r Cpu = Unit {0}
IsMet r (Under sched terms) = is_some (place_in r.places sched) ≡ true

-- none but names that pass a test are met anew, behind the others
pub record Meets (old new : Rising) (test : Text → Bool) : Type 0 where
  pub named : AreNamed old → AreNamed new
  pub grows : (name : Text) → is_some (place_in old.places name) ≡ true → is_some (place_in new.places name) ≡ true
  pub kept : (at : ℕ) (name : Text) → slice_get old.names.items at ≡ Some name
      → slice_get new.names.items at ≡ Some name
  pub passing : (at : ℕ) (name : Text) → slice_get new.names.items at ≡ Some name → test name ≡ false
      → slice_get old.names.items at ≡ Some name

pub record MeetsName (old new : Rising) (name : Text) : Type 0 where
  pub meets : Meets old new (λ other. bytes_eq other name)
  pub met : is_some (place_in new.places name) ≡ true

pub record MeetsSpot (old new : Rising) (spot : Spot) : Type 0 where
  pub meets : Meets old new (λ name. is_on (bytes_eq name) spot)
  pub met : IsMet new spot

pub record MeetsAll (old new : Rising) (perches : List Perch) : Type 0 where
  pub meets : Meets old new (λ name. sits (bytes_eq name) perches)
  pub met : (at : ℕ) (perch : Perch) → slice_get perches at ≡ Some perch → IsMet new perch.spot

-- A derivation that was found.
use Rattle.std.specs.Prelude.{ℕ, ◌≤◌, List}
use Rattle.hls_guarantee.specs.declared.Guarantee.{Guarantee}
use Rattle.hls_chron.specs.Kinds.{kind_of}
use Rattle.hls_derive.specs.declared.derivation.Place.{Place}
use Rattle.hls_derive.specs.declared.derivation.Step.{Step}
use Rattle.hls_derive.specs.declared.derivation.Derivation.{Derivation}
use Rattle.hls_derive.specs.Derivation.{conversions}
use Rattle.hls_derive.specs.Derives.{IsDerivation}
use Rattle.hls_search.specs.declared.found.Found.{Found}

abbrev pub derivation_of : Found → Derivation
derivation_of found = record {
  from = found.from;
  before = found.before;
  sched = found.sched;
  after = found.after;
}

-- through this port, with a scheduler step to this guarantee
abbrev pub through : Place → (port : ℕ) → (from : Guarantee) → (before : List Step) → (to : Guarantee)
    → (after : List Step) → Found
through place port from before to after = record {
  from = from;
  before = before;
  sched = record { kind = kind_of place.config; port = port; to = to };
  after = after;
}

-- a derivation of at most n conversions
pub record Derives (place : Place) (haves : List Guarantee) (want : Guarantee) (n : ℕ) (found : Found)
    : Type 0 where
  pub is : IsDerivation place haves want (derivation_of found)
  pub few : conversions (derivation_of found) ≤ n

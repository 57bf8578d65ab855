-- What a search is asked.
use Rattle.std.specs.Prelude.{◌≡◌, List, length, All}
use Rattle.hls_chron.specs.Ranges.{ConfigInRange, TermsInRange}
use Rattle.hls_guarantee.specs.declared.Guarantee.{Guarantee}
use Rattle.hls_guarantee.specs.Limits.{IsNarrow}
use Rattle.hls_derive.specs.declared.derivation.Place.{Place}
use Rattle.hls_chron.specs.Kinds.{port_count}

-- numbers in their ranges, and a guarantee for each port, all within the limits of a scenario
pub record CanSearch (place : Place) (haves : List Guarantee) (want : Guarantee) : Type 0 where
  pub config : ConfigInRange place.config
  pub terms : TermsInRange place.terms
  pub ports : length haves ≡ port_count place.config
  pub each_have : All IsNarrow haves
  pub wanted : IsNarrow want

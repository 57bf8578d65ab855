-- What is appended to a text about a question.
use Rattle.std.specs.Prelude.{◌≡◌, ℕ, ◌++◌, Bool, List, Option, Some, map, take}
use Rattle.std.specs.List.{list_any}
use Rattle.hls_text.specs.Lines.{Text}
use Rattle.hls_report_text.specs.ReportText.{with_end, ended}
use Rattle.hls_machine.specs.Hierarchy.{name_of}
use Rattle.hls_legal.specs.Moment.{Moment}
use Rattle.hls_offer_asks.specs.declared.needs.Need.{Need}
use Rattle.hls_offer_asks.specs.declared.needs.Had.{Had}
use Rattle.hls_offer.specs.Told.{Told, Place, IsPlaceOf, ArePlacesOf, had_text, is_at}

-- lines that tell something, and whether one of them offers a seat
pub record AddsTold (Tells : Told → Type 0) (offers : Bool) (old new : Text) : Type 0 where
  pub told : Told
  pub is : Tells told
  pub offers_is : offers ≡ told.offers
  pub text : new ≡ old ++ ended told.lines

-- the line of a scheduler, and whether the guarantee can be had there
pub record AddsPlace (m : Moment) (tick : ℕ) (need : Need) (on : Text) (periods : Option (List ℕ)) (offers : Bool)
    (old new : Text) : Type 0 where
  pub had : Had
  pub is : IsPlaceOf m need periods (record { on = on; had = had })
  pub offers_is : offers ≡ is_at had
  pub text : new ≡ old ++ with_end (had_text m.hierarchy tick need on had)

-- the lines of the first schedulers
pub record AddsPlaces (m : Moment) (tick : ℕ) (need : Need) (periods : Option (List ℕ)) (count : ℕ) (offers : Bool)
    (old new : Text) : Type 0 where
  pub places : List Place
  pub named : map (λ (place : Place). Some place.on) places
      ≡ map (λ k. name_of (m.hierarchy.nodes k)) (take count m.hierarchy.schedulers)
  pub are : ArePlacesOf m need periods places
  pub offers_is : offers ≡ list_any (λ (place : Place). is_at place.had) places
  pub text : new ≡ old ++ ended (map (λ (place : Place). had_text m.hierarchy tick need place.on place.had) places)

-- Which stays have which rows.
use Rattle.std.specs.Prelude.{◌≡◌, List, [], ◌∷◌, ◌++◌, Bool, ◌&&◌, map, filter}
use Rattle.std.specs.List.{list_any}
use Rattle.hls_text.specs.Lines.{Text}
use Rattle.hls_report_text.specs.Content.{Content}
use Rattle.hls_view_scale.specs.declared.scale.Scale.{Scale}
use Rattle.hls_view_tale.specs.declared.label.Label.{Label}
use Rattle.hls_view_tale.specs.declared.place.Place.{Place}
use Rattle.hls_view_tale.specs.Hierarchies.{places_at}
use Rattle.hls_view_lanes.specs.Likeness.{is_same}
use Rattle.hls_view_lanes.specs.Leaves.{is_leaf}
use Rattle.hls_view_margins.specs.declared.margin.Margin.{Margin}
use Rattle.hls_view_tights.specs.declared.tights.Tight.{Tight}
use Rattle.hls_view_tights.specs.declared.sightings.Sighting.{Sighting}
use Rattle.hls_view_tights.specs.Tights.{has_place, first_shown, tights_in}

abbrev pub has : (row : List Label) → Sighting → Bool
has row g = is_leaf row && list_any (is_same row) g.ways

-- the least surpluses of those that have a row
abbrev pub seen_in : (row : List Label) → List Sighting → List Tight
seen_in row all = map (λ (g : Sighting). g.tight) (filter (has row) all)

-- what a stay adds to them
abbrev pub tights_by : Content → Scale → (row : List Label) → Margin → List Tight
tights_by c s row m = tights_in c s row (m ∷ [])

-- the ways down to the places of a name
abbrev pub AreWays : (name : Text) → List Place → (ways : List (List Label)) → Type 0
AreWays name places ways = (row : List Label) → list_any (is_same row) ways ≡ has_place row name places

pub record IsSighting (c : Content) (s : Scale) (m : Margin) (tight : Tight) (g : Sighting) : Type 0 where
  pub tight_is : g.tight ≡ tight
  pub ways : AreWays m.name (places_at c (first_shown s m)) g.ways

abbrev pub IsPut : Content → Scale → Margin → (old new : List Sighting) → Type 0
IsPut c s m old new = (row : List Label) → seen_in row new ≡ seen_in row old ++ tights_by c s row m

abbrev pub AreSightings : Content → Scale → List Margin → List Sighting → Type 0
AreSightings c s margins all = (row : List Label) → seen_in row all ≡ tights_in c s row margins

-- The least spare of the stays that have a row.
use Rattle.std.specs.Prelude.{ℕ, max, nat_le, List, [], ◌∷◌, Option, Some, None, Bool, ◌&&◌, filter}
use Rattle.std.specs.List.{list_any, flat_map}
use Rattle.std.specs.Str.{bytes_eq}
use Rattle.hls_text.specs.Lines.{Text}
use Rattle.hls_report_text.specs.Content.{Content}
use Rattle.hls_view_scale.specs.declared.scale.Scale.{Scale}
use Rattle.hls_view_tale.specs.declared.label.Label.{Label}
use Rattle.hls_view_tale.specs.declared.place.Place.{Place}
use Rattle.hls_view_tale.specs.Places.{labels_of}
use Rattle.hls_view_tale.specs.Hierarchies.{places_at}
use Rattle.hls_view_lanes.specs.Likeness.{is_same}
use Rattle.hls_view_lanes.specs.Leaves.{is_leaf}
use Rattle.hls_view_margins.specs.declared.margin.Margin.{Margin}
use Rattle.hls_view_margins.specs.declared.margin.Spare.{Spare}
use Rattle.hls_view_margins.specs.declared.margin.Spare.TheVariants.{Least}
use Rattle.hls_view_margins.specs.Margins.{AreMargins, lasting}
use Rattle.hls_view_tights.specs.declared.tights.Tight.{Tight}
use Rattle.hls_view_tights.specs.Surpluses.{IsLeastOf}

-- a stay has a tick in the span
abbrev pub is_shown : Scale → Margin → Bool
is_shown s m = nat_le m.from s.to && nat_le s.from m.to

-- the first of these ticks
abbrev pub first_shown : Scale → Margin → ℕ
first_shown s m = max m.from s.from

-- whoever has a name has a place that reads as a row
abbrev pub has_place : (row : List Label) → (name : Text) → List Place → Bool
has_place row name places = list_any (λ (p : Place). is_same row (labels_of p) && bytes_eq p.label.name name) places

-- a row ends in a thread, and in the first tick of a stay that is shown its thread has this place
abbrev pub has_row : Content → Scale → (row : List Label) → Margin → Bool
has_row c s row m = is_leaf row && is_shown s m && has_place row m.name (places_at c (first_shown s m))

-- the least surplus, if a part is judged and no window is over
abbrev pub least_of : Spare → Option Tight
least_of (Least part surplus) = Some (record { surplus = surplus; part = part })
least_of _ = None

abbrev pub listed : Option Tight → List Tight
listed None = []
listed (Some tight) = tight ∷ []

-- those of the stays that have a row, in their order
abbrev pub tights_in : Content → Scale → (row : List Label) → List Margin → List Tight
tights_in c s row margins = flat_map (λ (m : Margin). listed (least_of m.spare)) (filter (has_row c s row) margins)

-- the least of each row, in the order of rows
abbrev pub AreLeast : Content → Scale → List Margin → (rows : List (List Label)) → List (Option Tight) → Type 0
AreLeast c s margins [] [] = Unit {0}
AreLeast c s margins (row ∷ rows) (tight ∷ all) =
    IsLeastOf (tights_in c s row margins) tight × AreLeast c s margins rows all
AreLeast c s margins _ _ = ⊥

-- of all stays that have a tick
pub record AreTights (c : Content) (s : Scale) (rows : List (List Label)) (all : List (Option Tight)) : Type 0 where
  pub margins : List Margin
  pub are : AreMargins c (lasting c) margins
  pub least : AreLeast c s margins rows all

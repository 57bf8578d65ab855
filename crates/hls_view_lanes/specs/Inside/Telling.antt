-- What is carried along the ticks of a picture.
use Rattle.std.specs.Prelude.{◌≡◌, ℕ, List, [], ◌∷◌, ◌++◌, Bool, Option, Some}
use Rattle.std.specs.Prelude.{None, find, map, option_and_then, option_map}
use Rattle.hls_text.specs.Lines.{Text}
use Rattle.hls_report_text.specs.declared.report.Path.{Path}
use Rattle.hls_report_text.specs.declared.report.Report.{Report}
use Rattle.hls_report_text.specs.Content.{Content, content_of, path_names}
use Rattle.hls_view_tale.specs.declared.label.Label.{Label}
use Rattle.hls_view_tale.specs.Places.{labels_of}
use Rattle.hls_view_tale.specs.Following.{IsFollowing}
use Rattle.hls_view_lanes.specs.declared.tick_facts.Facts.{Facts}
use Rattle.hls_view_lanes.specs.declared.tallies.Tally.{Tally}
use Rattle.hls_view_lanes.specs.declared.telling.Telling.{Telling}
use Rattle.hls_view_lanes.specs.Facts.{facts, idle_facts, is_through, spells}
use Rattle.hls_view_lanes.specs.Inside.Paths.{path_in}
use Rattle.hls_view_lanes.specs.Inside.Present.{IsPresent}
use Rattle.hls_view_lanes.specs.Inside.Readings.{AreReadings}
use Rattle.hls_view_lanes.specs.Inside.Tallies.{tally}

-- the way that a path names, of those that are there
abbrev pub given_by : (names : List Text) → (ways : List (List Label)) → Option Path → Option (List Label)
given_by names ways path = option_and_then (λ over. find (spells over) ways) (option_map (path_names names) path)

-- through which rows a run goes
abbrev pub through_of : Report → (rows ways : List (List Label)) → (at : ℕ) → List Bool
through_of r rows ways at = map (λ row. is_through row (given_by r.names ways (path_in r.runs at))) rows

abbrev pub ways_of : Telling → List (List Label)
ways_of telling = map labels_of telling.following.hierarchy.places.items

pub record IsTelling (r : Report) (all : List (List Label)) (telling : Telling) : Type 0 where
  pub rows : telling.rows.items ≡ all
  pub readings : AreReadings r telling.readings
  pub following : IsFollowing (content_of r) telling.following
  pub present : IsPresent (content_of r) all (ways_of telling) telling.present
  pub through : (at : ℕ) → telling.run ≡ Some at → telling.through.items ≡ through_of r all (ways_of telling) at

-- the ways that somebody has were found anew
pub record IsRenewed (old new : Telling) : Type 0 where
  pub rows : new.rows ≡ old.rows
  pub readings : new.readings ≡ old.readings
  pub following : new.following ≡ old.following
  pub present : (c : Content) → IsPresent c old.rows.items (ways_of old) new.present
  pub run : new.run ≡ None

-- it tells of the rows, and of these ways
pub record IsTellingOf (r : Report) (all ways : List (List Label)) (telling : Telling) : Type 0 where
  pub is : IsTelling r all telling
  pub ways_are : telling.present.ways.items ≡ ways

-- the facts of each row, and of the row for idle ticks, by ticks
abbrev pub all_lanes : Content → (rows : List (List Label)) → List (ℕ → Facts)
all_lanes c rows = map (λ row t. facts c t row) rows ++ idle_facts c ∷ []

abbrev pub tallies : Content → (rows : List (List Label)) → (from ticks : ℕ) → List Tally
tallies c rows from ticks = map (λ lane. tally lane from ticks) (all_lanes c rows)

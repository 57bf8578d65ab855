-- The numbers of rows, by which processes and tracks are known.
use Rattle.std.specs.Prelude.{ℕ, ◌+◌, List, Option, Some, None, length, position}
use Rattle.hls_view_tale.specs.declared.label.Label.{Label}
use Rattle.hls_view_lanes.specs.Likeness.{is_same}
use Rattle.hls_view_lanes.specs.Rows.{above_of}
use Rattle.hls_view_trace.specs.declared.event.Place.{Place}

abbrev pub number_at : Option ℕ → ℕ
number_at None = 0
number_at (Some at) = at + 1

-- the number of the first row that reads as a way, from 1 on, or else 0
abbrev pub number_of : (rows : List (List Label)) → (way : List Label) → ℕ
number_of rows way = number_at (position (λ row. is_same row way) rows)

-- the track of a row that ends in a thread: one of the process of the row above it
abbrev pub track_of : (rows : List (List Label)) → (way : List Label) → Place
track_of rows way = record { process = number_of rows (above_of way); track = number_of rows way }

-- two tracks more, of the processor
abbrev pub schedule_track : (rows : List (List Label)) → Place
schedule_track rows = record { process = 1; track = length rows + 1 }

abbrev pub commands_track : (rows : List (List Label)) → Place
commands_track rows = record { process = 1; track = length rows + 2 }

-- What names processes and tracks.
use Rattle.std.specs.Prelude.{◌==◌, List, [], ◌∷◌, ◌++◌, codes, Option, Some, None, flat_map, length}
use Rattle.std.specs.Prelude.{if◌then◌else◌}
use Rattle.hls_text.specs.Lines.{Text}
use Rattle.hls_guarantee.specs.Spelling.{spelling}
use Rattle.hls_scenario.specs.Forms.{joined, terms_forms}
use Rattle.hls_view_texts.specs.Texts.{sort_text}
use Rattle.hls_view_tale.specs.declared.label.Label.{Label}
use Rattle.hls_view_lanes.specs.Leaves.{is_leaf}
use Rattle.hls_view_drawing.specs.Rows.{last_label}
use Rattle.hls_view_drawing.specs.Strips.{way_text}
use Rattle.hls_view_trace.specs.declared.event.Event.{Event}
use Rattle.hls_view_trace.specs.declared.event.Event.TheVariants as events
use Rattle.hls_view_timeline.specs.Numbers.{number_of, track_of, schedule_track, commands_track}

-- a word behind a blank, if there is one
abbrev pub word_text : (word : Text) → Text
word_text word = if length word == 0 then [] else 32 ∷ word

-- on which terms somebody sits, and with which guarantee
abbrev pub seat_text : Label → Text
seat_text label = word_text (joined (terms_forms label.terms)) ++ word_text (spelling label.kept)

-- a scheduler: the way down to it, its configuration, terms and guarantee
abbrev pub process_text : (way : List Label) → Option Label → Text
process_text way None = codes "cpu ALL"
process_text way (Some label) = way_text way ++ (word_text (sort_text label.sort) ++ seat_text label)

-- a thread: its name, terms and guarantee
abbrev pub track_text : Option Label → Text
track_text None = []
track_text (Some label) = label.name ++ seat_text label

-- a row that ends in a thread is a track, any other a process; they stand in the order of their numbers
abbrev pub row_events : (rows : List (List Label)) → (way : List Label) → List Event
row_events rows way = if is_leaf way
    then events.TrackName (track_of rows way) (track_text (last_label way))
    ∷ events.TrackOrder (track_of rows way) (number_of rows way) ∷ []
    else events.ProcessName (number_of rows way) (process_text way (last_label way))
    ∷ events.ProcessOrder (number_of rows way) (number_of rows way) ∷ []

-- two tracks more, which stand before the others
abbrev pub common_events : (rows : List (List Label)) → List Event
common_events rows = events.TrackName (schedule_track rows) (codes "schedule")
    ∷ events.TrackOrder (schedule_track rows) 0
    ∷ events.TrackName (commands_track rows) (codes "commands")
    ∷ events.TrackOrder (commands_track rows) 1 ∷ []

abbrev pub naming_events : (rows : List (List Label)) → List Event
naming_events rows = flat_map (row_events rows) rows ++ common_events rows

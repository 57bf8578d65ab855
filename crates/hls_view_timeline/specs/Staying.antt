-- Stays on the tracks of their places. A stay is told by the account that a report ought to give of it.
use Rattle.std.specs.Prelude.{ℕ, ◌+◌, ◌-◌, List, [], ◌∷◌, Option, Some, Bool, flat_map, get_or, length, map}
use Rattle.std.specs.List.{range_with_len}
use Rattle.hls_guarantee.specs.Spelling.{spelling}
use Rattle.hls_report_text.specs.declared.report.Account.{Account}
use Rattle.hls_report_text.specs.Content.{Content}
use Rattle.hls_legal.specs.Ready.{is_ready}
use Rattle.hls_view_tale.specs.declared.label.Label.{Label}
use Rattle.hls_view_trace.specs.declared.event.Category.TheVariants.{Stay}
use Rattle.hls_view_trace.specs.declared.event.Place.{Place}
use Rattle.hls_view_trace.specs.declared.event.Event.{Event}
use Rattle.hls_view_trace.specs.declared.event.Event.TheVariants.{Slice}
use Rattle.hls_view_timeline.specs.Numbers.{track_of}
use Rattle.hls_view_timeline.specs.Ways.{ways_to}
use Rattle.hls_view_timeline.specs.Taken.{taken_at, is_number}
use Rattle.hls_view_timeline.specs.Slices.{inner_slices}

-- the ticks of a stay, in their order
abbrev pub ticks_of : Account → List ℕ
ticks_of a = range_with_len a.from (a.to + 1 - a.from)

-- whether its thread is ready in each
abbrev pub ready_in : Content → Account → List Bool
ready_in c a = map (is_ready c a.name) (ticks_of a)

-- which of its ways each takes
abbrev pub taken_in : Content → (ways : List (List Label)) → Account → List (Option ℕ)
taken_in c ways a = map (taken_at c ways) (ticks_of a)

-- a stay, named by its guarantee
abbrev pub stay_slice : Place → Account → Event
stay_slice place a = Slice (record {
  category = Stay;
  name = spelling a.kept;
  place = place;
  from = a.from;
  to = a.to;
  counts = Some (record { ready = a.ready; served = a.served });
})

-- on one track: the stay, and within it its windows and the rows of ticks that take the way of a number
abbrev pub track_events : Place → Account → (ready : List Bool) → (taken : List (Option ℕ)) → (number : ℕ) → List Event
track_events place a ready taken number =
    stay_slice place a ∷ inner_slices place a.from ready (map (is_number number) taken)

-- on the track of each of its ways
abbrev pub stay_events : (rows ways : List (List Label)) → Account → (ready : List Bool) → (taken : List (Option ℕ))
    → List Event
stay_events rows ways a ready taken =
    flat_map (λ number. track_events (track_of rows (get_or ways number [])) a ready taken number)
    (range_with_len 0 (length ways))

-- the ways are those of its first tick
abbrev pub account_events : Content → (rows : List (List Label)) → Account → List Event
account_events c rows a =
    stay_events rows (ways_to c a.from a.name) a (ready_in c a) (taken_in c (ways_to c a.from a.name) a)

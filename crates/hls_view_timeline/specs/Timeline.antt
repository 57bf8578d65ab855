-- The trace of a report.
use Rattle.std.specs.Prelude.{◌≡◌, ℕ, List, [], ◌++◌, flat_map}
use Rattle.hls_report_text.specs.Content.{Content}
use Rattle.hls_legal.specs.Accounts.{accounts_of}
use Rattle.hls_audit.specs.declared.auditing.Outcome.{Outcome}
use Rattle.hls_top.specs.Summaries.{verdict}
use Rattle.hls_view_tale.specs.declared.label.Label.{Label}
use Rattle.hls_view_lanes.specs.Rows.{rows_of}
use Rattle.hls_view_trace.specs.declared.event.Event.{Event}
use Rattle.hls_view_trace.specs.declared.event.Trace.{Trace}
use Rattle.hls_view_tracks.specs.Flame.{flame}
use Rattle.hls_view_tracks.specs.Commands.{instants}
use Rattle.hls_view_timeline.specs.Numbers.{schedule_track, commands_track}
use Rattle.hls_view_timeline.specs.Naming.{naming_events}
use Rattle.hls_view_timeline.specs.Staying.{account_events}

-- the rows of all ticks
abbrev pub rows_shown : Content → List (List Label)
rows_shown c = rows_of c 0 c.horizon

-- the names of rows; who was given the processor; the commands; and the stays that have a tick
abbrev pub events_over : Content → (rows : List (List Label)) → List Event
events_over c rows = naming_events rows
    ++ (flame (schedule_track rows) [] c.stretches
    ++ (instants c.version (commands_track rows) c.answered
    ++ flat_map (account_events c rows) (accounts_of c)))

-- a tick is shown as so many microseconds
pub record IsTrace (c : Content) (audit : Outcome) (tick : ℕ) (trace : Trace) : Type 0 where
  pub horizon : trace.horizon ≡ c.horizon
  pub tick_is : trace.tick ≡ tick
  pub verdict_is : trace.verdict ≡ verdict audit
  pub events_are : trace.events ≡ events_over c (rows_shown c)

-- The picture of a report.
use Rattle.std.specs.Prelude.{◌≡◌, ℕ, ◌+◌, ◌-◌, List, Option, Some, None, map}
use Rattle.hls_report_text.specs.Content.{Content}
use Rattle.hls_audit.specs.declared.auditing.Outcome.{Outcome}
use Rattle.hls_audit.specs.declared.auditing.Outcome.TheVariants.{Kept, Broken}
use Rattle.hls_top.specs.Summaries.{verdict}
use Rattle.hls_view_scale.specs.declared.scale.Scale.{Scale}
use Rattle.hls_view_tale.specs.declared.label.Label.{Label}
use Rattle.hls_view_lanes.specs.Rows.{rows_of}
use Rattle.hls_view_lanes.specs.Lanes.{all_counts}
use Rattle.hls_view_signs.specs.declared.signs.Signs.{Signs}
use Rattle.hls_view_signs.specs.Signs.{AreSigns}
use Rattle.hls_view_tights.specs.declared.tights.Tight.{Tight}
use Rattle.hls_view_tights.specs.Tights.{AreTights}
use Rattle.hls_view_shifts.specs.declared.shifts.Shift.{Shift}
use Rattle.hls_view_shifts.specs.Shifts.{shifts_among}
use Rattle.hls_view_picture_rows.specs.declared.picture.ShownMove.{ShownMove}
use Rattle.hls_view_picture_rows.specs.declared.picture.Picture.{Picture}
use Rattle.hls_view_drawing.specs.Names.{threads_among, schedulers_among}
use Rattle.hls_view_drawing.specs.Rows as rows
use Rattle.hls_view_drawing.specs.Rows.{all_rows}
use Rattle.hls_view_drawing.specs.Commands as commands
use Rattle.hls_view_drawing.specs.Commands.{commands_shown}
use Rattle.hls_view_drawing.specs.Strips as ran
use Rattle.hls_view_drawing.specs.Strips.{what_ran}

-- the first tick at which a report is broken
abbrev pub broken_at : Outcome → Option ℕ
broken_at Kept = None
broken_at (Broken clause tick) = Some tick

-- the rows of the ticks shown
abbrev pub ways_shown : Content → Scale → List (List Label)
ways_shown c s = rows_of c s.from (s.to + 1 - s.from)

abbrev pub move_of : Shift → ShownMove
move_of shift = record { tick = shift.tick; from = shift.from; to = shift.to }

-- its rows with what is so and happens in them, its commands and moves, and what ran
pub record IsDrawing (c : Content) (audit : Outcome) (s : Scale) (p : Picture) : Type 0 where
  pub scale : p.scale ≡ s
  pub horizon : p.horizon ≡ c.horizon
  pub verdict_is : p.verdict.items ≡ verdict audit
  pub broken : p.broken_at ≡ broken_at audit
  pub threads : p.threads ≡ threads_among (ways_shown c s)
  pub schedulers : p.schedulers ≡ schedulers_among (ways_shown c s)
  pub signs : List Signs
  pub are_signs : AreSigns c s (ways_shown c s) signs
  pub tights : List (Option Tight)
  pub are_tights : AreTights c s (ways_shown c s) tights
  pub rows_are : map rows.data_of p.rows.items
      ≡ all_rows s (ways_shown c s) (all_counts c s (ways_shown c s)) signs tights
  pub commands_are : map commands.data_of p.commands.items ≡ commands_shown c s
  pub moves_are : p.moves.items ≡ map move_of (shifts_among c s (ways_shown c s))
  pub strips_are : map ran.data_of p.strips.items
      ≡ what_ran c s (ways_shown c s) (all_counts c s (ways_shown c s))

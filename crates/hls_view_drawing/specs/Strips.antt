-- What ran in the ticks shown.
use Rattle.std.specs.Prelude.{ℕ, ◌+◌, ◌-◌, ◌==◌, ◌&&◌, nat_le, List, [], ◌∷◌, ◌++◌, codes, decimal, Bool}
use Rattle.std.specs.Prelude.{map, flat_map, get_or, length, if◌then◌else◌}
use Rattle.std.specs.List.{range_with_len}
use Rattle.hls_text.specs.Lines.{Text}
use Rattle.hls_report_text.specs.declared.stretch.Stretch as report
use Rattle.hls_report_text.specs.Content.{Content}
use Rattle.hls_report_text.specs.ReportText.{path_text}
use Rattle.hls_view_scale.specs.declared.scale.Scale.{Scale}
use Rattle.hls_view_scale.specs.Columns.{column_from, ticks_in}
use Rattle.hls_view_tale.specs.declared.label.Label.{Label}
use Rattle.hls_view_lanes.specs.declared.counts.Counts.{Counts}
use Rattle.hls_view_lanes.specs.Leaves.{is_leaf}
use Rattle.hls_view_picture_rows.specs.declared.picture.Stretch.{Stretch}
use Rattle.hls_view_picture_rows.specs.declared.picture.Strip.{Strip}
use Rattle.hls_view_drawing.specs.Rows.{no_counts}

-- a strip as plain data
pub record StripData : Type 0 where
  pub ticks : Stretch
  pub text : Text

abbrev pub data_of : Strip → StripData
data_of strip = record { ticks = strip.ticks; text = strip.text.items }

-- ---- where a column has one tick: the runs, each with its path

abbrev pub is_run_shown : Scale → report.Stretch → Bool
is_run_shown s run = nat_le s.from run.to && nat_le run.from s.to

abbrev pub strip_of : report.Stretch → StripData
strip_of run = record {
  ticks = record { first = run.from; last = run.to };
  text = 32 ∷ path_text run.path;
}

abbrev pub strip_if : Scale → report.Stretch → List StripData
strip_if s run = if is_run_shown s run then strip_of run ∷ [] else []

abbrev pub run_strips : Content → Scale → List StripData
run_strips c s = flat_map (strip_if s) c.stretches

-- ---- else a strip for each column: in how many of its ticks each thread's row, or none, was served

-- a step down
abbrev pub step_text : Label → Text
step_text label = codes "/" ++ label.name

abbrev pub way_text : (way : List Label) → Text
way_text way = codes "cpu" ++ flat_map step_text way

-- a thread's row, and in how many ticks of each column it is served
abbrev pub leaf_text : (column : ℕ) → (way : List Label) → List ℕ → Text
leaf_text column way served = if get_or served column 0 == 0 then [] else
    10 ∷ (way_text way ++ 32 ∷ decimal (get_or served column 0))

abbrev pub leaf_if : (column : ℕ) → (way : List Label) → Counts → Text
leaf_if column way counts = if is_leaf way then leaf_text column way counts.served else []

abbrev pub idle_text : (column : ℕ) → Counts → Text
idle_text column counts = if get_or counts.served column 0 == 0 then [] else
    10 ∷ (codes "idle " ++ decimal (get_or counts.served column 0))

abbrev pub leaf_at : (column : ℕ) → (ways : List (List Label)) → List Counts → (number : ℕ) → Text
leaf_at column ways counts number = leaf_if column (get_or ways number []) (get_or counts number no_counts)

-- of each row, in their order, and of the one for idle ticks behind them
abbrev pub leaves_text : (column : ℕ) → (ways : List (List Label)) → List Counts → Text
leaves_text column ways counts = flat_map (leaf_at column ways counts) (range_with_len 0 (length ways))
    ++ idle_text column (get_or counts (length ways) no_counts)

abbrev pub column_strip : Scale → (ways : List (List Label)) → List Counts → (column : ℕ) → StripData
column_strip s ways counts column = record {
  ticks = record { first = column_from s column; last = column_from s column + ticks_in s column - 1 };
  text = leaves_text column ways counts;
}

abbrev pub column_strips : Scale → (ways : List (List Label)) → List Counts → List StripData
column_strips s ways counts = map (column_strip s ways counts) (range_with_len 0 s.columns)

abbrev pub what_ran : Content → Scale → (ways : List (List Label)) → List Counts → List StripData
what_ran c s ways counts = if s.ticks == 1 then run_strips c s else column_strips s ways counts

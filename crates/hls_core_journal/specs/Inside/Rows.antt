-- Runs as they are kept: in rows, beside the paths that they share.
use Rattle.std.specs.Prelude.{ℕ, ◌<◌, ◌≤◌, ◌^◌, List, Option, None, All, map, length, get_or, min}
use Rattle.std.specs.Global.{Vec}
use Rattle.std.specs.Vec.{vec_capacity}
use Rattle.hls_report_text.specs.declared.report.Path.{Path}
use Rattle.hls_report_text.specs.declared.report.Run.{Run}
use Rattle.hls_core_journal.specs.Store.{Store}
use Rattle.hls_core_journal.specs.declared.kept_rows.Row.{Row}
use Rattle.hls_core_journal.specs.Inside.Shorts.{RowStore}

-- the path at a place
abbrev pub way_at : List (Option Path) → (at : ℕ) → Option Path
way_at ways at = get_or ways at None

-- the run of a row
abbrev pub run_by : List (Option Path) → Row → Run
run_by ways row = record { from = row.from; to = row.to; path = way_at ways row.way }

abbrev pub runs_by : List (Option Path) → List Row → List Run
runs_by ways rows = map (run_by ways) rows

-- each row has its path, and there are no more paths than rows
pub record AreRows (ways : List (Option Path)) (rows : List Row) : Type 0 where
  pub known : All (λ (row : Row). row.way < length ways) rows
  pub few : length ways ≤ length rows

-- a row has 32 bits for the place of its path
abbrev pub store_of : RowStore → Vec (Option Path) → Store
store_of rows ways = record {
  items = runs_by ways.items rows.items;
  capacity = min (min rows.capacity (vec_capacity ways)) (2 ^ 32);
}

-- The runs and paths of all ticks of a report.
use Rattle.std.specs.Prelude.{◌≡◌, ℕ, ◌+◌, ◌<◌, List, Option, Some, None, length, get_or, slice_get}
use Rattle.std.specs.List.{AllByRecursion}
use Rattle.hls_chron.specs.Name.{IsName}
use Rattle.hls_text.specs.Lines.{Text}
use Rattle.hls_report_text.specs.declared.report.Path.{Path}
use Rattle.hls_report_text.specs.declared.report.Run.{Run}
use Rattle.hls_audit.specs.Inside.Leading.{IsReached}

-- the run of each of the first so many ticks, by its place
pub record AreRuns (runs : List Run) (ticks : ℕ) (all : List ℕ) : Type 0 where
  pub long : length all ≡ ticks
  pub each : (t : ℕ) → t < length all → IsReached runs (t + 1) (get_or all t 0)

abbrev pub path_if : Option Run → Option Path
path_if None = None
path_if (Some run) = run.path

-- the path of the run at a place, by the places of its names
abbrev pub path_in : List Run → (at : ℕ) → Option Path
path_in runs at = path_if (slice_get runs at)

abbrev pub AreNamed : Option (List Text) → Type 0
AreNamed None = Unit {0}
AreNamed (Some names) = AllByRecursion IsName names

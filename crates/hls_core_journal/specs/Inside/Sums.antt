-- What is summed of a path.
use Rattle.std.specs.Prelude.{ℕ, ◌-◌, List, [], Option, Some, None, get_or, min}
use Rattle.hls_report_text.specs.declared.report.Path.{Path}

-- the last of its places alone
abbrev pub last_place : Option Path → ℕ
last_place None = 0
last_place (Some path) = get_or path.names (min (path.len - 1) 8) 0

-- all of them, with what stands behind its end
abbrev pub all_places : Option Path → List ℕ
all_places None = []
all_places (Some path) = path.names

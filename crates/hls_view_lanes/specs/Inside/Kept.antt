-- Rows that are there.
use Rattle.std.specs.Prelude.{◌≡◌, List, true}
use Rattle.std.specs.List.{AllByRecursion}
use Rattle.hls_view_tale.specs.declared.label.Label.{Label}
use Rattle.hls_view_lanes.specs.Rows.{has_row}

-- each of these ways has one
abbrev pub HaveRows : (rows ways : List (List Label)) → Type 0
HaveRows rows ways = AllByRecursion (λ (way : List Label). has_row rows way ≡ true) ways

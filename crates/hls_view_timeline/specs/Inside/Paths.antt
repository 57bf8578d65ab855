-- The paths of all ticks of a report.
use Rattle.std.specs.Prelude.{◌≡◌, ℕ, ◌<◌, List, [], Option, None, option_map, map, length, get_or}
use Rattle.hls_text.specs.Lines.{Text}
use Rattle.hls_report_text.specs.declared.report.Path.{Path}
use Rattle.hls_report_text.specs.Content.{Content, path_names}
use Rattle.hls_report_text.specs.WellFormed.{HasShort}
use Rattle.hls_legal.specs.Schedule.{path_at}

-- the path of a tick, by the places of its names
pub record IsPathOf (c : Content) (names : List Text) (t : ℕ) (path : Option Path) : Type 0 where
  pub short : HasShort path
  pub is : path_at c.stretches t ≡ option_map (path_names names) path

-- of the first so many ticks
pub record ArePaths (c : Content) (names : List Text) (ticks : ℕ) (paths : List (Option Path)) : Type 0 where
  pub long : length paths ≡ ticks
  pub each : (t : ℕ) → t < length paths → IsPathOf c names t (get_or paths t None)

-- the names at some places
abbrev pub named : (names : List Text) → (places : List ℕ) → List Text
named names places = map (λ place. get_or names place []) places

-- Paths by the places of their names.
use Rattle.std.specs.Prelude.{ℕ, List, [], Option, Some, None, map, take, get_or}
use Rattle.hls_text.specs.Lines.{Text}
use Rattle.hls_report_text.specs.declared.report.Path.{Path}

abbrev pub places_in : Option Path → List ℕ
places_in None = []
places_in (Some path) = take path.len path.names

abbrev pub named : (names : List Text) → (places : List ℕ) → List Text
named names places = map (λ place. get_or names place []) places

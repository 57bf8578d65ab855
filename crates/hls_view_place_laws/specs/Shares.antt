-- The rows of a picture that end in threads, and in how many ticks of a column the tick goes to a row.
use Rattle.std.specs.Prelude.{ℕ, ◌+◌, ◌-◌, List, ◌&&◌, filter}
use Rattle.hls_report_text.specs.Content.{Content}
use Rattle.hls_view_scale.specs.declared.scale.Scale.{Scale}
use Rattle.hls_view_tale.specs.declared.label.Label.{Label}
use Rattle.hls_view_lanes.specs.Likeness.{begins}
use Rattle.hls_view_lanes.specs.Rows.{rows_of}
use Rattle.hls_view_lanes.specs.Facts.{facts, idle_facts}
use Rattle.hls_view_lanes.specs.Lanes.{count_in}
use Rattle.hls_view_lanes.specs.Leaves.{is_leaf}

abbrev pub shown_rows : Content → Scale → List (List Label)
shown_rows c s = rows_of c s.from (s.to + 1 - s.from)

-- a leaf is a row that ends in a thread: those that are a row, or begin with it
abbrev pub leaves_below : (rows : List (List Label)) → (row : List Label) → List (List Label)
leaves_below rows row = filter (λ leaf. is_leaf leaf && begins row leaf) rows

abbrev pub served_in : Content → Scale → (column : ℕ) → (row : List Label) → ℕ
served_in c s column row = count_in s (λ t. (facts c t row).served) column

abbrev pub idle_in : Content → Scale → (column : ℕ) → ℕ
idle_in c s column = count_in s (λ t. (idle_facts c t).served) column

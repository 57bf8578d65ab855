-- The rows of a span of ticks, and in how many ticks of each column each fact holds of them.
use Rattle.std.specs.Prelude.{◌≡◌, ℕ, ◌+◌, ◌-◌, List, [], ◌∷◌, ◌++◌, Bool, map}
use Rattle.std.specs.List.{range_with_len, count_by}
use Rattle.hls_report_text.specs.Content.{Content}
use Rattle.hls_view_tale.specs.declared.label.Label.{Label}
use Rattle.hls_view_scale.specs.declared.scale.Scale.{Scale}
use Rattle.hls_view_scale.specs.Columns.{column_from, ticks_in}
use Rattle.hls_view_lanes.specs.declared.tick_facts.Facts.{Facts}
use Rattle.hls_view_lanes.specs.declared.counts.Counts.{Counts}
use Rattle.hls_view_lanes.specs.declared.lanes.Lanes.{Lanes}
use Rattle.hls_view_lanes.specs.Rows.{rows_of}
use Rattle.hls_view_lanes.specs.Facts.{facts, idle_facts}

-- at how many of its ticks something is so
abbrev pub count_in : Scale → (is : ℕ → Bool) → (column : ℕ) → ℕ
count_in s is column = count_by is (range_with_len (column_from s column) (ticks_in s column))

-- of each column, from the first
abbrev pub by_column : Scale → (is : ℕ → Bool) → List ℕ
by_column s is = map (count_in s is) (range_with_len 0 s.columns)

-- of a row, by its facts in each tick
abbrev pub counts_of : Scale → (facts : ℕ → Facts) → Counts
counts_of s facts = record {
  here = by_column s (λ t. (facts t).here);
  ready = by_column s (λ t. (facts t).ready);
  served = by_column s (λ t. (facts t).served);
}

-- of each row in their order, and of the one for idle ticks
abbrev pub all_counts : Content → Scale → (rows : List (List Label)) → List Counts
all_counts c s rows = map (λ row. counts_of s (λ t. facts c t row)) rows ++ counts_of s (idle_facts c) ∷ []

pub record AreLanes (c : Content) (s : Scale) (lanes : Lanes) : Type 0 where
  pub rows : lanes.rows.items ≡ rows_of c s.from (s.to + 1 - s.from)
  pub counts : lanes.counts.items ≡ all_counts c s (rows_of c s.from (s.to + 1 - s.from))

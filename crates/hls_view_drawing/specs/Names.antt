-- How many different threads and schedulers rows end in.
use Rattle.std.specs.Prelude.{ℕ, List, [], flat_map, length, option_map, option_to_list, if◌then◌else◌}
use Rattle.hls_text.specs.Lines.{Text}
use Rattle.hls_view_tale.specs.declared.label.Label.{Label}
use Rattle.hls_view_tale.specs.Standings.{firsts}
use Rattle.hls_view_lanes.specs.Leaves.{is_leaf}
use Rattle.hls_view_drawing.specs.Rows.{last_label}

-- the name at the end of a row; the processor has none
abbrev pub end_name : (row : List Label) → List Text
end_name row = option_to_list (option_map (λ (l : Label). l.name) (last_label row))

-- that of a thread, or of a scheduler
abbrev pub thread_name : (row : List Label) → List Text
thread_name row = if is_leaf row then end_name row else []

abbrev pub scheduler_name : (row : List Label) → List Text
scheduler_name row = if is_leaf row then [] else end_name row

-- how many different threads rows end in, and schedulers
abbrev pub threads_among : List (List Label) → ℕ
threads_among rows = length (firsts (flat_map thread_name rows))

abbrev pub schedulers_among : List (List Label) → ℕ
schedulers_among rows = length (firsts (flat_map scheduler_name rows))

-- By which of its ways a thread is served.
use Rattle.std.specs.Prelude.{ℕ, ◌==◌, List, Option, Some, None, Bool, false, option_and_then, position}
use Rattle.hls_report_text.specs.Content.{Content}
use Rattle.hls_legal.specs.Schedule.{path_at}
use Rattle.hls_view_tale.specs.declared.label.Label.{Label}
use Rattle.hls_view_lanes.specs.Facts.{spells}

-- the number, from 0, of the first way that leads over the names of the path of a tick
abbrev pub taken_at : Content → (ways : List (List Label)) → (t : ℕ) → Option ℕ
taken_at c ways t = option_and_then (λ names. position (spells names) ways) (path_at c.stretches t)

-- a tick takes the way of a number
abbrev pub is_number : (number : ℕ) → Option ℕ → Bool
is_number number None = false
is_number number (Some taken) = taken == number

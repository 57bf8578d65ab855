-- Three facts of a row and a tick.
use Rattle.std.specs.Prelude.{ℕ, ◌-◌, List, [], ◌∷◌, ◌++◌, Option, Some, None, Bool, true, false, ◌&&◌, map}
use Rattle.std.specs.Prelude.{find, filter, option_and_then, is_none, length, slice_get}
use Rattle.std.specs.List.{list_any}
use Rattle.std.specs.Str.{bytes_eq}
use Rattle.hls_text.specs.Lines.{Text}
use Rattle.hls_report_text.specs.Content.{Content}
use Rattle.hls_legal.specs.Schedule.{path_at}
use Rattle.hls_legal.specs.Ready.{is_ready}
use Rattle.hls_audit_clauses.specs.declared.member.Sort.{Sort}
use Rattle.hls_audit_clauses.specs.declared.member.Sort.TheVariants.{Scheduler, Thread}
use Rattle.hls_view_tale.specs.declared.label.Label.{Label}
use Rattle.hls_view_lanes.specs.declared.tick_facts.Facts.{Facts}
use Rattle.hls_view_lanes.specs.Likeness.{begins, is_same}
use Rattle.hls_view_lanes.specs.Rows.{ways_at}

-- a thread that is ready
abbrev pub asks : Content → (t : ℕ) → (name : Text) → Sort → Bool
asks c t name Thread = is_ready c name t
asks c t name (Scheduler config) = false

abbrev pub label_asks : Content → (t : ℕ) → Option Label → Bool
label_asks c t None = false
label_asks c t (Some label) = asks c t label.name label.sort

-- a way ends in a thread that is ready
abbrev pub way_asks : Content → (t : ℕ) → (way : List Label) → Bool
way_asks c t way = label_asks c t (slice_get way (length way - 1))

abbrev pub waiting_at : Content → (t : ℕ) → List (List Label)
waiting_at c t = filter (way_asks c t) (ways_at c t)

-- a way leads over these names
abbrev pub spells : (names : List Text) → (way : List Label) → Bool
spells [] [] = true
spells [] (label ∷ way) = false
spells (name ∷ names) [] = false
spells (name ∷ names) (label ∷ way) = bytes_eq name label.name && spells names way

-- the way that the path of a tick names
abbrev pub given_at : Content → (t : ℕ) → Option (List Label)
given_at c t = option_and_then (λ names. find (spells names) (ways_at c t)) (path_at c.stretches t)

abbrev pub is_through : (row : List Label) → Option (List Label) → Bool
is_through row None = false
is_through row (Some way) = begins row way

-- here: somebody has this place; ready: a ready thread is there or below; served: the tick goes there or below
abbrev pub facts_of : (ways waiting : List (List Label)) → (given : Option (List Label)) → (row : List Label) → Facts
facts_of ways waiting given row = record {
  here = list_any (is_same row) ways;
  ready = list_any (begins row) waiting;
  served = is_through row given;
}

abbrev pub facts : Content → (t : ℕ) → (row : List Label) → Facts
facts c t row = facts_of (ways_at c t) (waiting_at c t) (given_at c t) row

-- of the row for idle ticks
abbrev pub idle_facts : Content → (t : ℕ) → Facts
idle_facts c t = record { here = false; ready = false; served = is_none (path_at c.stretches t) }

-- of each row in their order, and of the one for idle ticks
abbrev pub all_facts : Content → (rows : List (List Label)) → (t : ℕ) → List Facts
all_facts c rows t = map (facts c t) rows ++ idle_facts c t ∷ []

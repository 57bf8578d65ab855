-- Which slices of a category hold a tick.
use Rattle.std.specs.Prelude.{ℕ, ◌&&◌, nat_le, List, Bool, true, false, filter, length}
use Rattle.hls_report_text.specs.declared.report.Account.{Account}
use Rattle.hls_view_trace.specs.declared.event.Category.{Category}
use Rattle.hls_view_trace.specs.declared.event.Category.TheVariants.{Run, Ready, Stay, Done, Refused}
use Rattle.hls_view_trace.specs.declared.event.Event.{Event}
use Rattle.hls_view_trace.specs.declared.event.Event.TheVariants.{Slice}

abbrev pub is_same : (a b : Category) → Bool
is_same Run Run = true
is_same Ready Ready = true
is_same Stay Stay = true
is_same Done Done = true
is_same Refused Refused = true
is_same a b = false

abbrev pub holds_as : (category : Category) → (t : ℕ) → Event → Bool
holds_as category t (Slice s) = is_same s.category category && (nat_le s.from t && nat_le t s.to)
holds_as category t _ = false

-- how many slices of a category hold a tick
abbrev pub held_as : (category : Category) → (t : ℕ) → List Event → ℕ
held_as category t events = length (filter (holds_as category t) events)

-- a tick of a stay
abbrev pub is_in : (t : ℕ) → Account → Bool
is_in t a = nat_le a.from t && nat_le t a.to

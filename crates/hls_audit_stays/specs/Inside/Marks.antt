-- Marks of the schedulers, one for each in their order.
use Rattle.std.specs.Prelude.{◌≡◌, ℕ, List, Option, Some, None, Bool, false, ◌||◌, map, get_or, take}
use Rattle.std.specs.Str.{bytes_eq}
use Rattle.hls_text.specs.Lines.{Text}
use Rattle.hls_report_text.specs.declared.report.Answered.{Answered}
use Rattle.hls_legal.specs.Under.{sits_on, is_under}
use Rattle.hls_audit_stays.specs.declared.places.Places.{Places}
use Rattle.hls_audit_stays.specs.declared.seats.Seats.{Seats}
use Rattle.hls_audit_stays.specs.Places.{place_in}
use Rattle.hls_audit_stays.specs.Inside.Seats.{seated}

abbrev pub mark_at : List Bool → Option ℕ → Bool
mark_at marks None = false
mark_at marks (Some place) = get_or marks place false

abbrev pub mark_in : Places → List Bool → (name : Text) → Bool
mark_in places marks name = mark_at marks (place_in places name)

-- a name is the one above, or one of its seats is on a marked scheduler
abbrev pub next_mark : Seats → List Answered → List Bool → (above name : Text) → Bool
next_mark s all marks above name = bytes_eq name above || sits_on (mark_in s.places marks) (seated s.last all name)

abbrev pub next_marks : Seats → List Answered → List Bool → (above : Text) → List Bool
next_marks s all marks above = map (next_mark s all marks above) s.scheds.items

-- they tell who is at or below a name after so many commands
abbrev pub AreBelow : Seats → List Answered → (came : ℕ) → List Bool → (above : Text) → Type 0
AreBelow s all came marks above = (name : Text) → next_mark s all marks above name ≡ is_under (take came all) above name

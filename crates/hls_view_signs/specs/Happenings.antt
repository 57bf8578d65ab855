-- What happens in a tick to whoever has a place once the commands of the tick were carried out.
use Rattle.std.specs.Prelude.{ℕ, ◌+◌, ◌-◌, ◌==◌, ◌&&◌, not, nat_lt, List, Option, Some, None, Bool, false}
use Rattle.std.specs.Prelude.{drop, slice_get}
use Rattle.std.specs.List.{list_any}
use Rattle.hls_text.specs.Lines.{Text}
use Rattle.hls_chron.specs.Ticks.{count}
use Rattle.hls_report_text.specs.declared.report.Answered.{Answered}
use Rattle.hls_report_text.specs.Content.{Content}
use Rattle.hls_legal.specs.Schedule.{is_served}
use Rattle.hls_view_jobs.specs.declared.job.Word.{Word}
use Rattle.hls_view_jobs.specs.declared.job.Release.{Release}
use Rattle.hls_view_jobs.specs.Words.{is_end, is_wake, words_on}
use Rattle.hls_view_jobs.specs.Jobs.{releases, until}
use Rattle.hls_view_tale.specs.declared.label.Label.{Label}
use Rattle.hls_view_tale.specs.declared.place.Place.{Place}
use Rattle.hls_view_tale.specs.declared.standing.Standing.{Standing}
use Rattle.hls_view_tale.specs.Places.{labels_of}
use Rattle.hls_view_tale.specs.Hierarchies.{places_at, standing_at}
use Rattle.hls_view_tree.specs.Stays.{standing_of}
use Rattle.hls_view_lanes.specs.Likeness.{is_same}
use Rattle.hls_view_lanes.specs.Leaves.{is_thread}
use Rattle.hls_view_signs.specs.declared.event.Event.{Event}
use Rattle.hls_view_signs.specs.declared.event.Event.TheVariants.{Begun, Woken, Dropped}

-- a command, if it is there, is of a tick
abbrev pub is_of : (t : ℕ) → Option Answered → Bool
is_of t None = false
is_of t (Some a) = a.tick == t

-- ---- wakes

-- a word wakes its thread in a tick: a command, or a later release of a periodic wake
abbrev pub is_woken : (t : ℕ) → Word → Bool
is_woken t word = word.tick == t && is_wake word.sort

-- ---- drops

-- a wake, a later release of one, or a block of a tick
abbrev pub breaks : (t : ℕ) → Option Word → Bool
breaks t None = false
breaks t (Some word) = word.tick == t && not (is_end word.sort)

-- it came next, before the thread of a name was served as many ticks as the release asked for
abbrev pub is_dropped : Content → (t : ℕ) → (name : Text) → Release → Bool
is_dropped c t name r = breaks t r.next
    && nat_lt (count (is_served c.stretches name) r.tick (until c.horizon r - r.tick)) r.asked

-- ---- to a node, told by which commands made it and opened its stay

-- the stay begins; this very thread is woken; a job of this very thread is dropped
abbrev pub happens : Content → (t : ℕ) → Event → Label → Standing → Bool
happens c t Begun label s = is_of t (slice_get c.answered s.opened)
happens c t Woken label s = is_thread label
    && list_any (is_woken t) (words_on c.horizon label.name (drop (s.born + 1) c.answered))
happens c t Dropped label s = is_thread label
    && list_any (is_dropped c t label.name) (releases (words_on c.horizon label.name (drop (s.born + 1) c.answered)))

abbrev pub happens_if : Content → (t : ℕ) → Event → Label → Option Standing → Bool
happens_if c t event label None = false
happens_if c t event label (Some s) = happens c t event label s

abbrev pub happens_to : Content → (t : ℕ) → Event → Label → Bool
happens_to c t event label = happens_if c t event label (standing_of (standing_at c t) label.name)

-- ---- in a row

-- to somebody who has this place
abbrev pub happens_in : Content → Event → (row : List Label) → (t : ℕ) → Bool
happens_in c event row t =
    list_any (λ (p : Place). is_same row (labels_of p) && happens_to c t event p.label) (places_at c t)

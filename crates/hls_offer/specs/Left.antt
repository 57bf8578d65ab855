-- What is left on a scheduler for further seats, by its configuration and its book.
use Rattle.std.specs.Prelude.{◌≡◌, ℕ, ◌+◌, ◌-◌, ◌*◌, ◌/◌, ◌<◌, ◌≤◌, ◌==◌, List, [], ◌∷◌, Option, Some, None}
use Rattle.std.specs.Prelude.{if◌then◌else◌}
use Rattle.std.specs.List.{filter_map}
use Rattle.hls_chron.specs.declared.plain.Config.{Config}
use Rattle.hls_chron.specs.declared.plain.Kind.{Kind}
use Rattle.hls_chron.specs.declared.plain.Kind.TheVariants as kinds
use Rattle.hls_chron.specs.Kinds.{kind_of}
use Rattle.hls_chron.specs.Ledger.{Ledger}
use Rattle.hls_chron.specs.Parts.{all_parts}
use Rattle.hls_chron.specs.Ranges.{most_slots}
use Rattle.hls_chron.specs.Seats.{HasPriority}
use Rattle.hls_kinds.specs.Room.{IsFull, room_total, room_used}
use Rattle.hls_offer_text.specs.declared.left.Span.{Span}
use Rattle.hls_offer_text.specs.declared.left.Fit.{Fit}
use Rattle.hls_offer_text.specs.declared.left.Left.{Left}
use Rattle.hls_offer_text.specs.declared.left.Left.TheVariants.{Full, Priorities, Parts, Weight, Slots, Turn, Sole}

-- the room that nothing uses up, of a seat, of what is held or of a frame's places
abbrev pub room_left : Config → Ledger → ℕ
room_left config b = room_total config - room_used config b

-- ---- priorities

-- behind taken priorities from one on, priorities in a row that no seat has, as many as can be
pub record IsFreeSpan (b : Ledger) (from end : ℕ) (span : Span) : Type 0 where
  pub behind : from ≤ span.first
  pub order : span.first ≤ span.last
  pub within : span.last < end
  pub taken : (p : ℕ) → from ≤ p → p < span.first → HasPriority b p
  pub free : (p : ℕ) → span.first ≤ p → p ≤ span.last → ¬ HasPriority b p

-- the priorities from one on and before an end that no seat has, in rising spans with a taken one between them
abbrev pub AreFreeSpans : Ledger → (from end : ℕ) → List Span → Type 0
AreFreeSpans b from end [] = (p : ℕ) → from ≤ p → p < end → HasPriority b p
AreFreeSpans b from end (span ∷ []) =
    IsFreeSpan b from end span × ((p : ℕ) → span.last < p → p < end → HasPriority b p)
AreFreeSpans b from end (span ∷ next ∷ spans) =
    IsFreeSpan b from end span × (span.last + 1 < next.first) × AreFreeSpans b (span.last + 1) end (next ∷ spans)

-- ---- reservations

-- the most ticks in every y that so many parts are enough for
abbrev pub most_ticks : (free y : ℕ) → ℕ
most_ticks free y = free * y / all_parts

abbrev pub fit_in : (free y : ℕ) → Option Fit
fit_in free y = if most_ticks free y == 0 then None else Some (record { x = most_ticks free y; y = y })

-- ---- all kinds

-- what is left where a slot is free, by the kind and the room that is left, with reservations in these periods
abbrev pub IsRoomAt : Kind → (room : ℕ) → Ledger → (periods : List ℕ) → Left → Type 0
IsRoomAt kinds.Fp room b periods (Priorities spans) = AreFreeSpans b 0 most_slots spans
IsRoomAt kinds.Edf room b periods (Parts free fits) = (free ≡ room) × (fits ≡ filter_map (fit_in free) periods)
IsRoomAt kinds.Sfq room b periods (Weight weight) = weight ≡ room
IsRoomAt kinds.Wheel room b periods (Slots places) = places ≡ room
IsRoomAt kinds.Rr room b periods Turn = Unit {0}
IsRoomAt kinds.Join room b periods Sole = Unit {0}
IsRoomAt kinds.Cpu room b periods Sole = Unit {0}
IsRoomAt _ room b periods _ = ⊥

abbrev pub IsRoom : Config → Ledger → (periods : List ℕ) → Left → Type 0
IsRoom config b periods left = IsRoomAt (kind_of config) (room_left config b) b periods left

-- what is left
abbrev pub IsLeft : Config → Ledger → (periods : List ℕ) → Left → Type 0
IsLeft config b periods Full = IsFull config b
IsLeft config b periods left = (¬ IsFull config b) × IsRoom config b periods left

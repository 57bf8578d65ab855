-- Bursts that wakes began, and their next releases.
use Rattle.std.specs.Prelude.{ℕ, ◌+◌, ◌-◌, ◌==◌, if◌then◌else◌, min, List, [], ◌∷◌, Option, Some, None, Bool, false}
use Rattle.std.specs.Prelude.{nat_le}
use Rattle.hls_core.specs.declared.begun.Begun.{Begun}
use Rattle.hls_core.specs.declared.begun.Release.{Release}

-- what a wake begins in a tick
abbrev pub release_by : (every : Option ℕ) → (burst now : ℕ) → Option Release
release_by None burst now = None
release_by (Some period) burst now = Some (record { tick = now + period; burst = burst; every = period })

abbrev pub begun_by : (every burst : Option ℕ) → (now : ℕ) → Option Begun
begun_by every None now = None
begun_by every (Some ticks) now = Some (record { left = ticks; next = release_by every ticks now })

abbrev pub left_by : Option Begun → Option ℕ
left_by None = None
left_by (Some begun) = Some begun.left

abbrev pub next_by : Option Begun → Option Release
next_by None = None
next_by (Some begun) = begun.next

-- so many ticks at most are left
abbrev pub ends_within : (ticks : ℕ) → Option ℕ → Bool
ends_within ticks None = false
ends_within ticks (Some left) = nat_le left ticks

-- so many ticks are used up
abbrev pub used : (ticks : ℕ) → Option Begun → Option Begun
used ticks None = None
used ticks (Some begun) = Some (record begun { left = begun.left - ticks })

-- the release comes in this tick
abbrev pub is_due : (now : ℕ) → Option Release → Bool
is_due now None = false
is_due now (Some release) = release.tick == now

-- after a release in this tick a burst is whole, and the next one is a period behind
abbrev pub released_by : (now : ℕ) → Release → Begun → Begun
released_by now release begun = if release.tick == now then (record {
  left = release.burst;
  next = Some (record release { tick = release.tick + release.every });
}) else begun

abbrev pub released_next : (now : ℕ) → Option Release → Begun → Begun
released_next now None begun = begun
released_next now (Some release) begun = released_by now release begun

abbrev pub released : (now : ℕ) → Option Begun → Option Begun
released now None = None
released now (Some begun) = Some (released_next now begun.next begun)

-- the tick of the first release
abbrev pub sooner : Option ℕ → Option Release → Option ℕ
sooner first None = first
sooner None (Some release) = Some release.tick
sooner (Some tick) (Some release) = Some (min tick release.tick)

abbrev pub first_from : Option ℕ → List (Option Begun) → Option ℕ
first_from first [] = first
first_from first (begun ∷ more) = first_from (sooner first (next_by begun)) more

abbrev pub first_of : List (Option Begun) → Option ℕ
first_of begun = first_from None begun

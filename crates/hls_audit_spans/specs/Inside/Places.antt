-- How many spans begin at a tick or before it.
use Rattle.std.specs.Prelude.{◌≡◌, ℕ, zero, suc, ◌+◌, ◌-◌, ◌<◌, ◌≤◌, List, Option, Some, None, Bool, false, nat_lt}
use Rattle.std.specs.Prelude.{length}
use Rattle.std.specs.Prelude.{slice_get}
use Rattle.hls_audit_spans.specs.declared.span.Span.{Span}

pub record IsBegun (spans : List Span) (tick at : ℕ) : Type 0 where
  pub within : at ≤ length spans
  pub last : (k : ℕ) (s : Span) → k + 1 ≡ at → slice_get spans k ≡ Some s → s.from ≤ tick
  pub next : (s : Span) → slice_get spans at ≡ Some s → tick < s.from

-- before how many spans there are at most so many ticks
pub record IsPassed (spans : List Span) (ticks at : ℕ) : Type 0 where
  pub within : at ≤ length spans
  pub last : (k : ℕ) (s : Span) → k + 1 ≡ at → slice_get spans k ≡ Some s → s.from - s.idle ≤ ticks
  pub next : (s : Span) → slice_get spans at ≡ Some s → ticks < s.from - s.idle

-- a tick is before the end of a span
abbrev pub ends_behind : Option Span → (tick : ℕ) → Bool
ends_behind None tick = false
ends_behind (Some s) tick = nat_lt tick s.until

-- the tick is in the last of so many spans
abbrev pub is_in : List Span → (at tick : ℕ) → Bool
is_in spans zero tick = false
is_in spans (suc last) tick = ends_behind (slice_get spans last) tick

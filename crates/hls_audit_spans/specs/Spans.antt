-- Ticks that pass a test, as spans in their order.
use Rattle.std.specs.Prelude.{◌≡◌, ℕ, ◌+◌, ◌-◌, ◌<◌, ◌≤◌, List, Option, Some, None, Bool, true, false, length}
use Rattle.std.specs.Prelude.{slice_get, get_or}
use Rattle.hls_chron.specs.Ticks.{count}
use Rattle.hls_audit_spans.specs.declared.span.Span.{Span}

-- all its ticks pass the test; of those before it so many do not
pub record IsSpan (f : ℕ → Bool) (s : Span) : Type 0 where
  pub some : s.from < s.until
  pub on : (t : ℕ) → s.from ≤ t → t < s.until → f t ≡ true
  pub idle : s.idle + count f 0 s.from ≡ s.from

-- the first tick of a span, or else the end
abbrev pub start : Option Span → (end : ℕ) → ℕ
start None end = end
start (Some s) end = s.from

-- none passes between a span and the next one, or the end
pub record IsQuiet (f : ℕ → Bool) (since : ℕ) (next : Option Span) (end : ℕ) : Type 0 where
  pub order : since ≤ start next end
  pub off : (t : ℕ) → since ≤ t → t < start next end → f t ≡ false

-- the ticks before an end that pass the test are those of the spans
pub record Tell (f : ℕ → Bool) (spans : List Span) (end : ℕ) : Type 0 where
  pub first : IsQuiet f 0 (slice_get spans 0) end
  pub each : (k : ℕ) (s : Span) → slice_get spans k ≡ Some s → IsSpan f s
  pub within : (k : ℕ) (s : Span) → slice_get spans k ≡ Some s → s.until ≤ end
  pub rest : (k : ℕ) (s : Span) → slice_get spans k ≡ Some s → IsQuiet f s.until (slice_get spans (k + 1)) end

-- the first tick that passes from one on, before an end
pub record IsNextAt (f : ℕ → Bool) (tick end next : ℕ) : Type 0 where
  pub behind : tick ≤ next
  pub within : next < end
  pub on : f next ≡ true
  pub none : (t : ℕ) → tick ≤ t → t < next → f t ≡ false

abbrev pub IsNext : (ℕ → Bool) → (tick end : ℕ) → Option ℕ → Type 0
IsNext f tick end None = (t : ℕ) → tick ≤ t → t < end → f t ≡ false
IsNext f tick end (Some next) = IsNextAt f tick end next

-- the tick that passes behind so many others
pub record IsNthAt (f : ℕ → Bool) (ticks end nth : ℕ) : Type 0 where
  pub within : nth < end
  pub on : f nth ≡ true
  pub behind : count f 0 nth ≡ ticks

abbrev pub IsNth : (ℕ → Bool) → (ticks end : ℕ) → Option ℕ → Type 0
IsNth f ticks end None = count f 0 end ≤ ticks
IsNth f ticks end (Some nth) = IsNthAt f ticks end nth

-- so many passed since a tick, or an end is reached
pub record IsReach (f : ℕ → Bool) (since ticks until reach : ℕ) : Type 0 where
  pub begins : since ≤ reach
  pub ends : reach ≤ until
  pub fewer : (t : ℕ) → since ≤ t → t < reach → count f since (t - since) < ticks
  pub all : (t : ℕ) → reach ≤ t → t < until → ticks ≤ count f since (t - since)

-- the first tick that passes one test and not another
pub record IsBeyondAt (f g : ℕ → Bool) (end beyond : ℕ) : Type 0 where
  pub within : beyond < end
  pub on : f beyond ≡ true
  pub off : g beyond ≡ false
  pub none : (t : ℕ) → t < beyond → f t ≡ true → g t ≡ true

abbrev pub IsBeyond : (f g : ℕ → Bool) → (end : ℕ) → Option ℕ → Type 0
IsBeyond f g end None = (t : ℕ) → t < end → f t ≡ true → g t ≡ true
IsBeyond f g end (Some beyond) = IsBeyondAt f g end beyond

-- the first tick, from one on and before another, that passes one test and not another
pub record IsBeyondInAt (f g : ℕ → Bool) (since until beyond : ℕ) : Type 0 where
  pub behind : since ≤ beyond
  pub within : beyond < until
  pub on : f beyond ≡ true
  pub off : g beyond ≡ false
  pub none : (t : ℕ) → since ≤ t → t < beyond → f t ≡ true → g t ≡ true

abbrev pub IsBeyondIn : (f g : ℕ → Bool) → (since until : ℕ) → Option ℕ → Type 0
IsBeyondIn f g since until None = (t : ℕ) → since ≤ t → t < until → f t ≡ true → g t ≡ true
IsBeyondIn f g since until (Some beyond) = IsBeyondInAt f g since until beyond

-- whether each tick from one on passes
pub record AreTicks (f : ℕ → Bool) (from : ℕ) (list : List Bool) : Type 0 where
  pub each : (t : ℕ) → t < length list → get_or list t false ≡ f (t + from)

-- Finding ticks. A test on ticks is true at those that are meant.
use Rattle.std.specs.Prelude.{ℕ, zero, suc, ◌+◌, Bool, Option, Some, None, if◌then◌else◌}

-- the last of the n ticks from i on that is among those of the test
unfoldable pub last_of : (test : ℕ → Bool) (i n : ℕ) → Option ℕ
last_of test i zero = None
last_of test i (suc n) = if test (i + n) then Some (i + n) else last_of test i n

abbrev pub next_or : ℕ → Option ℕ → ℕ
next_or i None = i
next_or i (Some t) = t + 1

-- the tick after it, or i where there is none
abbrev pub after_last : (test : ℕ → Bool) (i n : ℕ) → ℕ
after_last test i n = next_or i (last_of test i n)

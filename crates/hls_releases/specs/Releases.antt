-- The releases of a wake: the wake itself, and, of a periodic one, one in every so many ticks after it.
use Rattle.std.specs.Prelude.{◌≡◌, ℕ, ◌+◌, ◌-◌, ◌≤◌, ◌%◌, Option, Some, None, Bool, nat_lt}
use Rattle.hls_chron.specs.Ticks.{count}

-- tick t has a release of a wake in tick `since` with one in every so many ticks
abbrev pub IsRelease : (period since t : ℕ) → Type 0
IsRelease period since t = (since ≤ t) × ((t - since) % period ≡ 0)

-- the last release up to tick t of a wake that came in tick `since`
abbrev pub last_release : (every : Option ℕ) → (since t : ℕ) → ℕ
last_release None since t = since
last_release (Some period) since t = t - (t - since) % period

-- the first release after tick t
abbrev pub next_release : (period since t : ℕ) → ℕ
next_release period since t = last_release (Some period) since t + period

-- from the last release to before tick t fewer ticks were served than the burst has
abbrev pub is_unserved : (serves : ℕ → Bool) → (every : Option ℕ) → (burst since t : ℕ) → Bool
is_unserved serves every burst since t =
    nat_lt (count serves (last_release every since t) (t - last_release every since t)) burst

-- Ticks in a row that are alike.
use Rattle.std.specs.Prelude.{◌≡◌, ℕ, ◌≤◌, ◌<◌, Bool}

-- a test says the same of all ticks from one on and before another
abbrev pub IsSteady : (test : ℕ → Bool) → (tick until : ℕ) → Type 0
IsSteady test tick until = (t : ℕ) → tick ≤ t → t < until → test t ≡ test tick

-- What a reservation may still use up to a bound, a tick. The whole is the parts of the processor, and a tick
-- of service is counted as the whole.
use Rattle.std.specs.Prelude.{ℕ, ◌+◌, ◌*◌, ◌-◌, Bool, nat_le, min, if◌then◌else◌}

-- its budget, and what comes after its deadline at its rate
unfoldable pub owed : (whole budget deadline rate bound : ℕ) → ℕ
owed whole budget deadline rate bound =
    if nat_le deadline bound then budget * whole + rate * (bound - deadline) else 0

-- where it does not count as asking, no more than its rate from now on
unfoldable pub claimed : (asking : Bool) (whole budget deadline rate now bound : ℕ) → ℕ
claimed asking whole budget deadline rate now bound =
    if asking then owed whole budget deadline rate bound
    else min (owed whole budget deadline rate bound) (rate * (bound - now))

-- The number at the front of a text, digit by digit.
use Rattle.std.specs.Prelude.{ℕ, ◌+◌, ◌-◌, ◌*◌, ◌^◌, ◌==◌, ◌&&◌, ◌||◌, nat_lt, not, Bool, false, [], ◌∷◌}
use Rattle.std.specs.Prelude.{Option, Some, None, if◌then◌else◌}
use Rattle.hls_text.specs.Lines.{Text}
use Rattle.hls_text.specs.Numbers.{is_digit}

-- whether the first byte is a digit, and no leading zero of a number that goes on up to that end
abbrev pub may_begin : (end : ℕ) → Text → Bool
may_begin end [] = false
may_begin end (b ∷ []) = false
may_begin end (b ∷ c ∷ bs) = is_digit b && (not (b == 48) || c == end)

-- what the digits before the first such end make of a number before them, which may have 32 bits before each
-- digit, and what stands behind that end
abbrev pub digits_to : (end value : ℕ) → Text → Option (ℕ × Text)
digits_to end value [] = None
digits_to end value (b ∷ bs) =
    if b == end then Some (value, bs) else
    (if is_digit b && nat_lt value (2 ^ 32) then digits_to end (10 * value + (b - 48)) bs else None)

-- The numbers that tokens spell.
use Rattle.std.specs.Prelude.{ℕ, ◌+◌, ◌-◌, ◌*◌, ◌^◌, ◌==◌, ◌&&◌, nat_le, min, Bool, false, not, [], ◌∷◌}
use Rattle.std.specs.Prelude.{Option, Some, None, if◌then◌else◌}
use Rattle.std.specs.List.{list_all}
use Rattle.hls_text.specs.Lines.{Text}

abbrev pub is_digit : ℕ → Bool
is_digit b = nat_le 48 b && nat_le b 57

abbrev pub are_digits : Text → Bool
are_digits token = list_all is_digit token

-- a run of digits without a leading zero, or 0
abbrev pub is_number : Text → Bool
is_number [] = false
is_number (b ∷ []) = is_digit b
is_number (b ∷ c ∷ bs) = not (b == 48) && are_digits (b ∷ c ∷ bs)

-- the number that digits stand for, after a number that was read before them
abbrev pub value_from : ℕ → Text → ℕ
value_from n [] = n
value_from n (b ∷ bs) = value_from (10 * n + (b - 48)) bs

-- the number that a token is, of any size
abbrev pub number_of : Text → Option ℕ
number_of token = if is_number token then Some (value_from 0 token) else None

-- the last number that the reader tells from greater ones
abbrev pub last_number : ℕ
last_number = 2 ^ 64 - 1

-- a digit after a number, where neither step passes the last number
abbrev pub capped_step : ℕ → ℕ → ℕ
capped_step n b = min (min (n * 10) (2 ^ 64 - 1) + (b - 48)) (2 ^ 64 - 1)

-- Numbers that are drawn, each from the state behind the one before.
use Rattle.std.specs.Prelude.{ℕ, ◌+◌, ◌*◌, ◌/◌, ◌%◌, ◌^◌}

abbrev pub first_state : (number : ℕ) → ℕ
first_state number = number % 2 ^ 31

abbrev pub next_state : ℕ → ℕ
next_state state = (state * 1103515245 + 12345) % 2 ^ 31

-- the number below a bound that a state gives
abbrev pub drawn : (state bound : ℕ) → ℕ
drawn state bound = state / 65536 % bound

-- How little any n ticks in a row may have served, where any y ticks in a row have x, or each block of y has.
use Rattle.std.specs.Prelude.{ℕ, ◌+◌, ◌*◌, ◌-◌, ◌/◌, ◌%◌}

-- x for each whole period, and of the rest all but y - x
abbrev pub least_of_windows : (x y n : ℕ) → ℕ
least_of_windows x y n = n / y * x + (n % y - (y - x))

-- no more, y - x ticks before: the ticks of one block have come, and those of the next come last
abbrev pub least_of_blocks : (x y n : ℕ) → ℕ
least_of_blocks x y n = least_of_windows x y (n - (y - x))

-- How many ticks go into a column, how many columns there are, and how wide each is.
use Rattle.std.specs.Prelude.{ℕ, ◌+◌, ◌-◌, ◌/◌, min, nat_le, List, [], ◌∷◌, if◌then◌else◌}

-- 1, 2 and 5 times the powers of ten
abbrev pub round_numbers : List ℕ
round_numbers = 1 ∷ 2 ∷ 5 ∷ 10 ∷ 20 ∷ 50 ∷ 100 ∷ 200 ∷ 500 ∷ 1000 ∷ 2000 ∷ 5000 ∷ 10000 ∷ 20000 ∷ 50000 ∷ 100000
    ∷ 200000 ∷ 500000 ∷ 1000000 ∷ 2000000 ∷ 5000000 ∷ 10000000 ∷ 20000000 ∷ 50000000 ∷ 100000000 ∷ 200000000
    ∷ 500000000 ∷ 1000000000 ∷ 2000000000 ∷ 5000000000 ∷ []

-- the first of some numbers that is not less; without one the number itself
abbrev pub first_not_less : List ℕ → ℕ → ℕ
first_not_less [] least = least
first_not_less (n ∷ ns) least = if nat_le least n then n else first_not_less ns least

unfoldable pub nice : ℕ → ℕ
nice least = first_not_less round_numbers least

-- a part of something counts as a whole
abbrev pub ceiling : ℕ → ℕ → ℕ
ceiling n part = (n + part - 1) / part

-- both ends are shown
abbrev pub ticks_shown : (from to : ℕ) → ℕ
ticks_shown from to = to + 1 - from

abbrev pub column_ticks : (from to : ℕ) → ℕ
column_ticks from to = nice (ceiling (ticks_shown from to) 1200)

abbrev pub column_count : (from to : ℕ) → ℕ
column_count from to = ceiling (ticks_shown from to) (column_ticks from to)

abbrev pub column_wide : (from to : ℕ) → ℕ
column_wide from to = min (1200 / column_count from to) 24

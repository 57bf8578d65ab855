-- Sums over letters.
use Rattle.std.specs.Prelude.{ℕ, List, ◌+◌, ◌*◌, ◌%◌, ◌^◌, fold}

-- the sum so far is taken 31 times for each letter, in 32 bits
abbrev pub sum_over : (number : ℕ) (letters : List ℕ) → ℕ
sum_over number letters = fold (λ sum letter. (sum * 31 % 2 ^ 32 + letter) % 2 ^ 32) number letters

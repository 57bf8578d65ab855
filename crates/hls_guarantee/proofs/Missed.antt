-- The ticks that a schedule does not serve, counted from tick 0 on.
use Rattle.std.proofs.Common.{◌≡◌, ℕ, zero, suc, ◌+◌, ◌-◌, ◌≤◌, Bool, arith}
use Rattle.std.proofs.Common.{add-zero, add-suc}
use Rattle.hls_chron.specs.Ticks.{one_if, count}
use Rattle.hls_chron.proofs.CountLaws.{one_if-le, count-le}

-- how many of the first n ticks are not served
unfoldable pub missed : (f : ℕ → Bool) (n : ℕ) → ℕ
missed f zero = 0
missed f (suc n) = missed f n + (1 - one_if (f n))

-- served and unserved make up the n ticks from i on
pub balance : (f : ℕ → Bool) (i n : ℕ) → missed f i + n ≡ missed f (i + n) + count f i n
unfolding missed count
balance f i zero = rw (add-zero i) (omega arith)
balance f i (suc n) =
    let before = balance f i n in
    let small = one_if-le (f (i + n)) in
    rw (add-suc i n) (omega (arith, before, small))

-- of the ticks from i on and before j
pub balance_to : (f : ℕ → Bool) (i j : ℕ) → i ≤ j → missed f i + j ≡ missed f j + count f i (j - i) + i
balance_to f i j le =
    let all = balance f i (j - i) in
    let end : i + (j - i) ≡ j = omega arith in
    omega (arith, (rw end at all))

-- no more are unserved than there are
pub slow : (f : ℕ → Bool) (i j : ℕ) → i ≤ j → missed f j + i ≤ missed f i + j
slow f i j le = omega (arith, balance_to f i j le)

-- and a later count is no less
pub missed-le : (f : ℕ → Bool) (i j : ℕ) → i ≤ j → missed f i ≤ missed f j
missed-le f i j le = omega (arith, balance_to f i j le, count-le f i (j - i))

-- Counting ticks, and the last of them.
use Rattle.std.proofs.Common.{◌≡◌, ℕ, zero, suc, ◌+◌, ◌≤◌, Bool, true, false, arith, refl, ap, add-one}
use Rattle.std.proofs.Common.{zero-add}
use Rattle.std.specs.Prelude.{Option, Some, None, if◌then◌else◌}
use Rattle.hls_chron.specs.Ticks.{one_if, count}
use Rattle.hls_chron.proofs.CountLaws.{count-le}
use Rattle.hls_kinds.specs.Ticks.{last_of, next_or, after_last}

pub count-zero : (test : ℕ → Bool) (i : ℕ) → count test i 0 ≡ 0
unfolding count
count-zero test i = refl

pub count-hit : (test : ℕ → Bool) (i n : ℕ) → test (i + n) ≡ true → count test i (n + 1) ≡ count test i n + 1
unfolding count
count-hit test i n hit = rw (add-one n) (ap (λ b. count test i n + one_if b) hit)

pub count-miss : (test : ℕ → Bool) (i n : ℕ) → test (i + n) ≡ false → count test i (n + 1) ≡ count test i n
unfolding count
count-miss test i n miss = rw (add-one n, miss) (omega arith)

pub last-zero : (test : ℕ → Bool) (i : ℕ) → last_of test i 0 ≡ None
unfolding last_of
last-zero test i = refl

pub last-hit : (test : ℕ → Bool) (i n : ℕ) → test (i + n) ≡ true → last_of test i (n + 1) ≡ Some (i + n)
unfolding last_of
last-hit test i n hit = rw (add-one n, hit) refl

pub last-miss : (test : ℕ → Bool) (i n : ℕ) → test (i + n) ≡ false → last_of test i (n + 1) ≡ last_of test i n
unfolding last_of
last-miss test i n miss = rw (add-one n, miss) refl

-- the tick after the last, by whether one more tick is among those of the test
after_within : (test : ℕ → Bool) (i n : ℕ) (hit : Bool) → after_last test i n ≤ i + n
    → next_or i (if hit then Some (i + n) else last_of test i n) ≤ i + suc n
after_within test i n true le = omega arith
after_within test i n false le = omega (arith, le)

pub after_last-le : (test : ℕ → Bool) (i n : ℕ) → after_last test i n ≤ i + n
unfolding last_of
after_last-le test i zero = omega arith
after_last-le test i (suc n) = after_within test i n (test (i + n)) (after_last-le test i n)

-- from tick 0 on
pub count_first-hit : (test : ℕ → Bool) (n : ℕ) → test n ≡ true → count test 0 (n + 1) ≡ count test 0 n + 1
count_first-hit test n hit = count-hit test 0 n (rw (zero-add n) hit)

pub count_first-miss : (test : ℕ → Bool) (n : ℕ) → test n ≡ false → count test 0 (n + 1) ≡ count test 0 n
count_first-miss test n miss = count-miss test 0 n (rw (zero-add n) miss)

pub ruleset tick_laws = (
  count-le,
  count-zero,
  count-hit,
  count-miss,
  count_first-hit,
  count_first-miss,
  after_last-le,
  last-zero,
  last-hit,
  last-miss,
)

pub from_within : (test : ℕ → Bool) (i n : ℕ) (last : Option ℕ) (from : ℕ) → last ≡ last_of test i n
    → from ≡ next_or i last → from ≤ i + n
from_within test i n last from is_last is_from = rw (is_from, is_last) (after_last-le test i n)

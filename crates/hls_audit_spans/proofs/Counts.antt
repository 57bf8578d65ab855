-- Counts of ticks from the first one on.
use Rattle.std.proofs.Common.{◌≡◌, ℕ, zero, suc, ◌+◌, ◌-◌, ◌<◌, ◌≤◌, Bool, true, false, sym, ap, ◌∙◌, arith}
use Rattle.hls_chron.specs.Ticks.{count, one_if}
use Rattle.hls_chron.proofs.CountLaws.{count-none, count-push, count-add, count-le}

-- ticks in a row that all pass, and that all do not
pub count_on : (f : ℕ → Bool) (i n : ℕ) → ((t : ℕ) → i ≤ t → t < i + n → f t ≡ true) → count f i n ≡ n
count_on f i zero on = count-none f i
count_on f i (suc n) on =
    let rest = count_on f i n (λ t lo hi. on t lo (omega (arith, hi))) in
    let here : one_if (f (i + n)) ≡ 1 = ap one_if (on (i + n) (omega arith) (omega arith)) in
    let push = count-push f i n in
    omega (arith, rest, here, push)

pub count_off : (f : ℕ → Bool) (i n : ℕ) → ((t : ℕ) → i ≤ t → t < i + n → f t ≡ false) → count f i n ≡ 0
count_off f i zero off = count-none f i
count_off f i (suc n) off =
    let rest = count_off f i n (λ t lo hi. off t lo (omega (arith, hi))) in
    let here : one_if (f (i + n)) ≡ 0 = ap one_if (off (i + n) (omega arith) (omega arith)) in
    let push = count-push f i n in
    omega (arith, rest, here, push)

-- up to a tick, by an earlier one
pub count_apart : (f : ℕ → Bool) (since t : ℕ) → since ≤ t
    → count f 0 t ≡ count f 0 since + count f since (t - since)
count_apart f since t le =
    let all : t ≡ since + (t - since) = omega (arith, le) in
    let first : 0 + since ≡ since = omega arith in
    ap (count f 0) all ∙ count-add f 0 since (t - since)
    ∙ ap (λ (i : ℕ). count f 0 since + count f i (t - since)) first

pub count_all : (f : ℕ → Bool) (since t : ℕ) → since ≤ t → ((k : ℕ) → since ≤ k → k < t → f k ≡ true)
    → count f 0 t + since ≡ count f 0 since + t
count_all f since t le on =
    let split = count_apart f since t le in
    let rest = count_on f since (t - since) (λ k lo hi. on k lo (omega (arith, lo, hi, le))) in
    omega (arith, split, rest, le)

pub count_same : (f : ℕ → Bool) (since t : ℕ) → since ≤ t → ((k : ℕ) → since ≤ k → k < t → f k ≡ false)
    → count f 0 t ≡ count f 0 since
count_same f since t le off =
    let split = count_apart f since t le in
    let rest = count_off f since (t - since) (λ k lo hi. off k lo (omega (arith, lo, hi, le))) in
    omega (arith, split, rest)

pub count_up : (f : ℕ → Bool) (since t : ℕ) → since ≤ t → count f 0 since ≤ count f 0 t
count_up f since t le = let split = count_apart f since t le in omega (arith, split)

pub count_next : (f : ℕ → Bool) (t : ℕ) → f t ≡ true → count f 0 (t + 1) ≡ count f 0 t + 1
count_next f t on =
    let all = count_all f t (t + 1) (omega arith) (λ k lo hi. let same : t ≡ k = omega (arith, lo, hi) in
    sym (ap f same) ∙ on) in
    omega (arith, all)

pub count_first : (f : ℕ → Bool) → count f 0 0 ≡ 0
count_first f = count-none f 0

pub count_few : (f : ℕ → Bool) (i n : ℕ) → count f i n ≤ n
count_few f i n = count-le f i n

-- Windows of so many periods.
use Rattle.std.proofs.Common.{◌≡◌, ℕ, zero, suc, ◌+◌, ◌*◌, ◌≤◌, ◌/◌, Bool, arith, inl, inr}
use Rattle.std.specs.Prelude.{min}
use Rattle.std.proofs.Math.Nat.{mul-le-mul_right}
use Rattle.std.proofs.lemmas.Bool.{cases_lt}
use Rattle.std.proofs.lemmas.Nat.{le-div}
use Rattle.hls_guarantee.proofs.Missed.{missed, slow}
use Rattle.hls_guarantee.proofs.Spans.{Spans}
use Rattle.hls_guarantee.specs.Conversions.{HasTimes}

-- the same of fewer ticks
pub shorter : (c y z : ℕ) (f : ℕ → Bool) (lo hi : ℕ) → Spans c y f lo hi → z ≤ y → Spans c z f lo hi
shorter c y z f lo hi s le = record { few = λ i j from up to near. s.few i j from up to (omega (arith, near, le)) }

few_times : (c y k : ℕ) (f : ℕ → Bool) (lo hi : ℕ) → Spans c y f lo hi → (i j : ℕ) → lo ≤ i → i ≤ j → j ≤ hi
    → j ≤ i + k * y → missed f j ≤ missed f i + k * c
few_times c y zero f lo hi s i j from up to near =
    let few = s.few i i from (omega arith) (omega (arith, up, to)) (omega arith) in
    let same : j ≡ i = omega (arith, up, near) in
    rw same (omega arith)
few_times c y (suc k) f lo hi s i j from up to near = elim (cases_lt (i + y) j) [
  | inr short ↦ omega (arith, s.few i j from up to short)
  | inl long ↦
      let first = s.few i (i + y) from (omega arith) (omega (arith, long, to)) (omega arith) in
      let rest = few_times c y k f lo hi s (i + y) j (omega (arith, from)) (omega (arith, long)) to
      (omega (arith, near)) in
      omega (arith, first, rest)
]

-- of so many times y ticks in a row, and of a rest besides
pub times_and : (c y k r : ℕ) (f : ℕ → Bool) (lo hi : ℕ) → Spans c y f lo hi → r ≤ y
    → Spans (k * c + min r c) (k * y + r) f lo hi
times_and c y k r f lo hi s le = record {
  few = λ i j from up to near. elim (cases_lt (i + r) j) [
    | inr short ↦
        let few = s.few i j from up to (omega (arith, short, le)) in
        omega (arith, few, slow f i j up, short)
    | inl long ↦
        let first = s.few i (i + r) from (omega arith) (omega (arith, long, to)) (omega (arith, le)) in
        let rest = few_times c y k f lo hi s (i + r) j (omega (arith, from)) (omega (arith, long)) to
        (omega (arith, near)) in
        omega (arith, first, rest, slow f i (i + r) (omega arith))
  ];
}

pub times : (c y k : ℕ) (f : ℕ → Bool) (lo hi : ℕ) → Spans c y f lo hi → Spans (k * c) (k * y) f lo hi
times c y k f lo hi s = record { few = few_times c y k f lo hi s }

-- the most whole periods
pub most_times : (x y x' y' : ℕ) → 1 ≤ y → HasTimes x y x' y' → (1 ≤ y' / y) × (x' ≤ y' / y * x)
most_times x y x' y' some has =
    let most : has.times ≤ y' / y = le-div has.times y' y some has.within in
    let more : has.times * x ≤ y' / y * x = mul-le-mul_right x most in
    (omega (arith, most, has.some), omega (arith, more, has.enough))

pub times_of : (x y x' y' : ℕ) → 1 ≤ y → (1 ≤ y' / y) × (x' ≤ y' / y * x) → HasTimes x y x' y'
times_of x y x' y' some is =
    record { times = y' / y; some = is.0; enough = is.1; within = omega (arith, some) }

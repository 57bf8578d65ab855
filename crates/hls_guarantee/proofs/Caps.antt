-- The cap of windows gives the cap of blocks.
use Rattle.std.proofs.Common.{ℕ, zero, suc, ◌+◌, ◌*◌, ◌-◌, ◌≤◌, ◌≡◌, Bool, true, arith, ap, inl, inr}
use Rattle.std.proofs.Common.{mul-le-mul_right}
use Rattle.std.proofs.lemmas.Bool.{cases_lt}
use Rattle.hls_guarantee.specs.declared.Guarantee.TheVariants.{Resb, Resc}
use Rattle.hls_chron.specs.Ticks.{count}
use Rattle.hls_guarantee.specs.Service.{EveryPart}
use Rattle.hls_guarantee.specs.Cap.{KeepsCap}
use Rattle.hls_chron.proofs.PartLaws.{parts-rate}
use Rattle.hls_chron.specs.Parts.{all_parts, parts}
use Rattle.hls_chron.proofs.CountLaws.{count-add}

-- of more than y ticks the first y get at most x; u of U parts are x of y ticks or more
cap-by : (U x y u d : ℕ) (f : ℕ → Bool) (lo hi : ℕ) → x * U ≤ u * y →
    EveryPart (λ i n got. n ≤ y → got ≤ x) f lo hi → (i n : ℕ) → lo ≤ i → i + n ≤ hi → n ≤ suc d * y →
    count f i n * U ≤ u * n + x * U
cap-by U x y u zero f lo hi rate each i n from to near =
    omega (arith, mul-le-mul_right U (each i n from to (omega arith)))
cap-by U x y u (suc d) f lo hi rate each i n from to near = elim (cases_lt y n) [
  | inr short ↦ omega (arith, mul-le-mul_right U (each i n from to short))
  | inl long ↦
      let r : ℕ = n - y in
      let sum : n ≡ y + r = omega arith in
      let first = mul-le-mul_right U (each i y from (omega arith) (omega arith)) in
      let rest = cap-by U x y u d f lo hi rate each (i + y) r (omega arith) (omega arith) (omega arith) in
      let split = ap (λ (k : ℕ). k * U) (count-add f i y r) in
      let whole = ap (λ (k : ℕ). count f i k * U) sum in
      let share = ap (λ (k : ℕ). u * k) sum in
      omega (arith, first, rest, rate, split, whole, share)
]

far : (n y : ℕ) → 1 ≤ y → n ≤ suc n * y
far n y some = omega (arith, mul-le-mul_right {m = 1} {n = y} n some)

pub windows_cap-blocks : (x y : ℕ) (f : ℕ → Bool) (lo hi : ℕ) → 1 ≤ y → KeepsCap (Resc true x y) f lo hi →
    KeepsCap (Resb true x y) f lo hi
windows_cap-blocks x y f lo hi some kept = λ i n from to.
    let rate = parts-rate x y some in
    let most = cap-by all_parts x y (parts x y) n f lo hi rate kept i n from to (far n y some) in
    omega (arith, most)

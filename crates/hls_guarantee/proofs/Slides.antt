-- The service of the y ticks that end before a tick, or of as many as there are.
use Rattle.std.proofs.Common.{◌≡◌, ℕ, suc, ◌+◌, ◌-◌, ◌<◌, ◌≤◌, Bool, ap, arith, inl, inr}
use Rattle.std.specs.Prelude.{min}
use Rattle.std.proofs.lemmas.Bool.{cases_lt}
use Rattle.hls_chron.specs.Ticks.{one_if, count}
use Rattle.hls_guarantee.specs.Service.{service_before, EveryPart}
use Rattle.hls_guarantee.specs.Satisfaction.{IsReserved}
use Rattle.hls_chron.proofs.CountLaws.{count-none, count-push, count-add, count-le}
use Rattle.hls_chron.proofs.CountLaws.{count-within}

pub before-le : (f : ℕ → Bool) (y k : ℕ) → service_before f y k ≤ y
before-le f y k = omega (arith, count-le f (k - y) (min y k))

-- in front the ticks become one more
pub slide_front : (f : ℕ → Bool) (y k : ℕ) → k < y →
    service_before f y (k + 1) ≡ service_before f y k + one_if (f k)
slide_front f y k lt =
    let start : k - y ≡ 0 = omega arith in
    let start_next : k + 1 - y ≡ 0 = omega arith in
    let n : min y k ≡ k = omega arith in
    let n_next : min y (k + 1) ≡ suc k = omega arith in
    let push = count-push f 0 k in
    let at : 0 + k ≡ k = omega arith in
    rw (start, start_next, n, n_next) (rw at at push)

-- later one enters and one leaves
pub slide_full : (f : ℕ → Bool) (y k : ℕ) → y ≤ k →
    service_before f y (k + 1) + one_if (f (k - y)) ≡ service_before f y k + one_if (f k)
slide_full f y k le =
    let a : ℕ = k - y in
    let start : k + 1 - y ≡ a + 1 = omega arith in
    let n : min y k ≡ y = omega arith in
    let n_next : min y (k + 1) ≡ y = omega arith in
    let push : count f a (suc y) ≡ count f a y + one_if (f (a + y)) = count-push f a y in
    let end : a + y ≡ k = omega arith in
    let entered : one_if (f (a + y)) ≡ one_if (f k) = ap (λ (t : ℕ). one_if (f t)) end in
    let split : count f a (1 + y) ≡ count f a 1 + count f (a + 1) y = count-add f a 1 y in
    let one : count f a 1 ≡ count f a 0 + one_if (f (a + 0)) = count-push f a 0 in
    let none : count f a 0 ≡ 0 = count-none f a in
    let here : a + 0 ≡ a = omega arith in
    let left : one_if (f (a + 0)) ≡ one_if (f a) = ap (λ (t : ℕ). one_if (f t)) here in
    let ticks : suc y ≡ 1 + y = omega arith in
    let counted : count f a (suc y) ≡ count f a (1 + y) = ap (λ (t : ℕ). count f a t) ticks in
    rw (start, n, n_next) (omega arith)

-- a part of reserved ticks is reserved
pub reserved-part : (hard : Bool) (x y : ℕ) (f : ℕ → Bool) (a m i n : ℕ) → a ≤ i → i + n ≤ a + m →
    IsReserved hard x y m (count f a m) → IsReserved hard x y n (count f i n)
reserved-part hard x y f a m i n lo hi r =
    let w = count-within f a m i n lo hi in
    record { enough = omega (arith, r.enough, w.idle); capped = λ h. omega (arith, r.capped h, w.less) }

pub reserved-same : (hard : Bool) (x y n m got more : ℕ) → n ≡ m → got ≡ more → IsReserved hard x y n got →
    IsReserved hard x y m more
reserved-same hard x y n m got more p q r = record {
  enough = omega (arith, r.enough);
  capped = λ h. omega (arith, r.capped h);
}

-- no ticks
pub reserved-none : (hard : Bool) (x y : ℕ) (f : ℕ → Bool) (i : ℕ) → x ≤ y →
    IsReserved hard x y 0 (count f i 0)
reserved-none hard x y f i le =
    let none = count-none f i in
    record { enough = omega arith; capped = λ h. omega arith }

-- the ticks that end before each tick up to k are reserved
pub record Slid (hard : Bool) (x y : ℕ) (f : ℕ → Bool) (k got : ℕ) : Type 0 where
  pub counted : got ≡ service_before f y k
  pub kept : (m : ℕ) → m ≤ k → IsReserved hard x y (min y m) (service_before f y m)

pub slid_none : (hard : Bool) (x y : ℕ) (f : ℕ → Bool) → x ≤ y → Slid hard x y f 0 0
slid_none hard x y f le =
    let none = count-none f 0 in
    let start : 0 - y ≡ 0 = omega arith in
    let n : min y 0 ≡ 0 = omega arith in
    record {
      counted = rw (start, n) (omega arith);
      kept = λ m lt.
          let e : m ≡ 0 = omega arith in
          rw (e, start, n) (reserved-none hard x y f 0 le);
    }

pub slid_next : (hard : Bool) (x y : ℕ) (f : ℕ → Bool) (k n got before : ℕ) → n ≡ min y (k + 1) →
    got ≡ service_before f y (k + 1) → IsReserved hard x y n got → Slid hard x y f k before →
    Slid hard x y f (k + 1) got
slid_next hard x y f k n got before len is r slid = record {
  counted = is;
  kept = λ m le. elim (cases_lt k m) [
    | inl new ↦ (let e : m ≡ k + 1 = omega arith in rw e (reserved-same hard x y n _ got _ len is r))
    | inr old ↦ slid.kept m old
  ];
}

-- then every part of at most y ticks is
pub slid_all : (hard : Bool) (x y : ℕ) (f : ℕ → Bool) (len got : ℕ) → Slid hard x y f len got →
    EveryPart (λ i n got. n ≤ y → IsReserved hard x y n got) f 0 len
slid_all hard x y f len got slid = λ i n lo hi short.
    let k : ℕ = i + n in
    reserved-part hard x y f (k - y) (min y k) i n (omega arith) (omega arith) (slid.kept k hi)

-- and where one is not, not every part is
pub slid_not : (hard : Bool) (x y : ℕ) (f : ℕ → Bool) (k len n got : ℕ) → n ≡ min y (k + 1) →
    got ≡ service_before f y (k + 1) → k < len →
    EveryPart (λ i n got. n ≤ y → IsReserved hard x y n got) f 0 len → IsReserved hard x y n got
slid_not hard x y f k len n got small is lt each =
    rw (small, is) (each (k + 1 - y) (min y (k + 1)) (omega arith) (omega arith) (omega arith))

-- the service of the ticks that end before each tick up to k is at most x
pub record Capped (x y : ℕ) (f : ℕ → Bool) (k got : ℕ) : Type 0 where
  pub counted : got ≡ service_before f y k
  pub kept : (m : ℕ) → m ≤ k → service_before f y m ≤ x

pub capped_none : (x y : ℕ) (f : ℕ → Bool) → Capped x y f 0 0
capped_none x y f =
    let none = count-none f 0 in
    let start : 0 - y ≡ 0 = omega arith in
    let n : min y 0 ≡ 0 = omega arith in
    record {
      counted = rw (start, n) (omega arith);
      kept = λ m lt. let e : m ≡ 0 = omega arith in rw (e, start, n) (omega arith);
    }

pub capped_next : (x y : ℕ) (f : ℕ → Bool) (k got before : ℕ) → got ≡ service_before f y (k + 1) → got ≤ x →
    Capped x y f k before → Capped x y f (k + 1) got
capped_next x y f k got before is few capped = record {
  counted = is;
  kept = λ m le. elim (cases_lt k m) [
    | inl new ↦ (let e : m ≡ k + 1 = omega arith in rw e (omega (arith, is, few)))
    | inr old ↦ capped.kept m old
  ];
}

-- then no part of at most y ticks has more
pub capped_all : (x y : ℕ) (f : ℕ → Bool) (len got : ℕ) → Capped x y f len got →
    EveryPart (λ i n got. n ≤ y → got ≤ x) f 0 len
capped_all x y f len got capped = λ i n lo hi short.
    let k : ℕ = i + n in
    let w = count-within f (k - y) (min y k) i n (omega arith) (omega arith) in
    omega (arith, w.less, capped.kept k hi)

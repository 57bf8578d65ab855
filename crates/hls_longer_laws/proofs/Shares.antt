-- Which shares follow from windows and from blocks, exactly.
use Rattle.std.proofs.Common.{◌≡◌, ℕ, suc, ◌+◌, ◌-◌, ◌*◌, ◌<◌, ◌≤◌, Bool, refl, ap, ◌∙◌, arith, inl, inr}
use Rattle.std.proofs.Math.Nat.{mul-le-mul_left, mul-le-mul_right}
use Rattle.std.proofs.lemmas.Bool.{cases_lt}
use Rattle.hls_chron.specs.Ticks.{count}
use Rattle.hls_frac.specs.declared.Frac.{Frac}
use Rattle.hls_guarantee.specs.declared.Guarantee.TheVariants.{Resb, Resc, Psbe}
use Rattle.hls_guarantee.specs.Limits.{IsReservation}
use Rattle.hls_guarantee.specs.Satisfaction.{HasShare}
use Rattle.hls_guarantee.proofs.Fractions.{share-less}
use Rattle.hls_guarantee.proofs.Missed.{missed, balance}
use Rattle.hls_guarantee.proofs.Readings.{windows-spans, blocks-spans}
use Rattle.hls_guarantee.proofs.Shares.{span-share, piece-share}
use Rattle.hls_longer_laws.specs.Implies.{Implies}
use Rattle.hls_longer_laws.specs.Shares.{IsShareOf}
use Rattle.hls_longer_laws.proofs.Late.{late, missed_is, late-satisfies}
use Rattle.hls_longer_laws.proofs.Blocks.{worst, first_is, later_is, worst-satisfies}

-- ---- that they follow

-- of n ticks got are served, which is x of y ticks but for m times what these miss
few_got : (x y c m i n got u v : ℕ) → y ≡ c + x → u + n ≡ v + got → v * y + c * i ≤ u * y + c * (i + n + m * x)
    → x * n ≤ got * y + x * m * c
few_got x y c m i n got u v sum even few =
    let served = ap (λ (k : ℕ). k * y) even in
    let window = ap (λ (k : ℕ). n * k) sum in
    omega (arith, served, window, few)

shared : (m x y n got : ℕ) (s d : Frac) → 1 ≤ x → x ≤ y → IsShareOf m x y s d
    → x * n ≤ got * y + x * m * (y - x) → HasShare s d n got
shared m x y n got s d some fits is most =
    let whole : x * n * y ≤ (got * y + x * m * (y - x)) * y = mul-le-mul_right y most in
    let error : s.num * (m * (y - x)) * d.den * (x * y) ≤ d.num * s.den * (x * y) =
    mul-le-mul_right (x * y) is.error in
    share-less x y (x * m * (y - x)) y s.num s.den d.num d.den n got some (omega (arith, some, fits)) is.rate
    (omega (arith, error)) whole

far : (n y : ℕ) → 1 ≤ y → n ≤ suc n * y
far n y some = let more = mul-le-mul_left n some in omega (arith, more)

pub windows_enough : (hard : Bool) (x y : ℕ) (s d : Frac) → IsReservation x y → IsShareOf 1 x y s d
    → Implies (Resc hard x y) (Psbe s d)
windows_enough hard x y s d from is = λ f lo hi own i n at to.
    let c : ℕ = y - x in
    let sum : y ≡ c + x = (let fits = from.fits in omega arith) in
    let few = span-share x c y n f lo hi sum (windows-spans hard x y f lo hi from.fits own) i (i + n) at
    (omega arith) to
    (omega (arith, far n y (omega (arith, from.some, from.fits)))) in
    shared 1 x y n (count f i n) s d from.some from.fits is
    (few_got x y c 1 i n (count f i n) (missed f i) (missed f (i + n)) sum (balance f i n) (omega (arith, few)))

pub blocks_enough : (hard : Bool) (x y : ℕ) (s d : Frac) → IsReservation x y → IsShareOf 2 x y s d
    → Implies (Resb hard x y) (Psbe s d)
blocks_enough hard x y s d from is = λ f lo hi own i n at to.
    let c : ℕ = y - x in
    let sum : y ≡ c + x = (let fits = from.fits in omega arith) in
    let few = piece-share x c own.0 y f lo hi own.1 sum (blocks-spans hard x y f lo hi from.fits own) i (i + n) at
    (omega arith) to in
    shared 2 x y n (count f i n) s d from.some from.fits is
    (few_got x y c 2 i n (count f i n) (missed f i) (missed f (i + n)) sum (balance f i n) (omega (arith, few)))

-- ---- that no more does

-- of so many periods that the rate would be more than the error
rate_of : (x y k : ℕ) (s d : Frac) → k ≡ d.num * s.den + 1 → HasShare s d (k * y) (k * x) → s.num * y ≤ x * s.den
rate_of x y k s d many share = elim (cases_lt (x * s.den) (s.num * y)) [
  | inr le ↦ le
  | inl more ↦
      let one : (x * s.den + 1) * (k * d.den) ≤ s.num * y * (k * d.den) =
      mul-le-mul_right (k * d.den) (omega (arith, more)) in
      let some : k * 1 ≤ k * d.den = mul-le-mul_left k d.positive in
      absurd (omega (arith, one, some, share, many))
]

error_of : (n : ℕ) (s d : Frac) → HasShare s d n 0 → s.num * n * d.den ≤ d.num * s.den
error_of n s d share = omega (arith, share)

pub windows_no_more : (hard : Bool) (x y : ℕ) (s d : Frac) → IsReservation x y → Implies (Resc hard x y) (Psbe s d)
    → IsShareOf 1 x y s d
windows_no_more hard x y s d from implies =
    let c : ℕ = y - x in
    let k : ℕ = d.num * s.den + 1 in
    let sum : y ≡ c + x = (let fits = from.fits in omega arith) in
    let some : 0 < y = omega (arith, from.some, from.fits) in
    let all : (n : ℕ) → HasShare s d n (count (late c y) 0 n) =
    λ n. implies (late c y) 0 n (late-satisfies hard c x y n sum some) 0 n (omega arith) (omega arith) in
    let none = missed_is c y 0 0 0 (omega (arith, sum)) (omega arith) some in
    let first : count (late c y) 0 (1 * c) ≡ 0 = (
    let end = missed_is c y 0 c (0 + 1 * c) (omega (arith, sum)) (omega arith) (omega (arith, sum, from.some)) in
    omega (arith, balance (late c y) 0 (1 * c), none, end)) in
    let long : count (late c y) 0 (k * y) ≡ k * x = (
    let end = missed_is c y k 0 (0 + k * y) (omega (arith, sum)) (omega arith) some in
    let parts : k * y ≡ k * c + k * x = ap (λ n. k * n) sum ∙ omega arith in
    omega (arith, balance (late c y) 0 (k * y), none, end, parts)) in
    record {
      rate = rate_of x y k s d refl (rw (← long) (all (k * y)));
      error = error_of (1 * c) s d (rw (← first) (all (1 * c)));
    }

pub blocks_no_more : (hard : Bool) (x y : ℕ) (s d : Frac) → IsReservation x y → Implies (Resb hard x y) (Psbe s d)
    → IsShareOf 2 x y s d
blocks_no_more hard x y s d from implies =
    let c : ℕ = y - x in
    let k : ℕ = d.num * s.den + 1 in
    let sum : y ≡ c + x = (let fits = from.fits in omega arith) in
    let some : 0 < y = omega (arith, from.some, from.fits) in
    let all : (i n : ℕ) → HasShare s d n (count (worst x y) i n) =
    λ i n. implies (worst x y) 0 (i + n) (worst-satisfies hard x y (i + n) some from.fits) i n (omega arith)
    (omega arith) in
    let first : count (worst x y) x (2 * c) ≡ 0 = (
    let begin = first_is x y x from.fits from.fits in
    let at_end : x + 2 * c ≡ y + c = omega (arith, sum) in
    let end = ap (missed (worst x y)) at_end ∙ later_is x y c some from.fits in
    let is = missed_is c y 1 c (y + c) (omega (arith, sum)) (omega arith) (omega (arith, sum, from.some)) in
    omega (arith, balance (worst x y) x (2 * c), begin, end, is)) in
    let long : count (worst x y) y (k * y) ≡ k * x = (
    let begin = first_is x y y from.fits (omega arith) in
    let end = later_is x y (k * y) some from.fits in
    let is = missed_is c y (suc k) 0 (y + k * y) (omega (arith, sum)) (omega arith) some in
    let parts : k * y ≡ k * c + k * x = ap (λ n. k * n) sum ∙ omega arith in
    omega (arith, balance (worst x y) y (k * y), begin, end, is, parts)) in
    record {
      rate = rate_of x y k s d refl (rw (← long) (all y (k * y)));
      error = error_of (2 * c) s d (rw (← first) (all x (2 * c)));
    }

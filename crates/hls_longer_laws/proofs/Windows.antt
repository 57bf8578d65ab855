-- What follows from windows, exactly.
use Rattle.std.proofs.Common.{◌≡◌, ℕ, ◌+◌, ◌-◌, ◌*◌, ◌<◌, ◌≤◌, ◌%◌, ◌/◌, Bool, false, ap, ◌∙◌}
use Rattle.std.proofs.Common.{arith}
use Rattle.std.specs.Prelude.{min}
use Rattle.hls_guarantee.specs.declared.Guarantee.TheVariants.{Resc}
use Rattle.hls_guarantee.specs.Limits.{IsReservation}
use Rattle.hls_guarantee.proofs.Missed.{missed, balance}
use Rattle.hls_guarantee.proofs.Readings.{windows-spans, spans-windows}
use Rattle.hls_guarantee.specs.Conversions.{HasTimes}
use Rattle.hls_longer_laws.specs.Implies.{Implies}
use Rattle.hls_longer_laws.specs.Least.{least_of_windows}
use Rattle.hls_guarantee.proofs.Times.{times_and}
use Rattle.hls_longer_laws.proofs.Late.{late, missed_is, late-satisfies, late-least}

pub enough : (hard : Bool) (x y x' y' : ℕ) → IsReservation x y → x' ≤ y' → x' ≤ least_of_windows x y y'
    → Implies (Resc hard x y) (Resc false x' y')
enough hard x y x' y' from le least = λ f lo hi s.
    let some : 0 < y = omega (arith, from.some, from.fits) in
    let sum : y' / y * y + y' % y ≡ y' = omega (arith, some) in
    let rest : y' % y ≤ y = omega (arith, some) in
    let parts : y' / y * y ≡ y' / y * (y - x) + y' / y * x =
    ap (λ k. y' / y * k) (let all : y ≡ y - x + x = omega (arith, from.fits) in all) ∙ omega arith in
    let spans = times_and (y - x) y (y' / y) (y' % y) f lo hi (windows-spans hard x y f lo hi from.fits s) rest in
    spans-windows x' y' (y' / y * (y - x) + min (y' % y) (y - x)) (y' / y * y + y' % y) f lo hi le spans
    (omega (arith, sum)) (omega (arith, sum, parts, least))

pub no_more : (hard : Bool) (x y x' y' : ℕ) → IsReservation x y → Implies (Resc hard x y) (Resc false x' y')
    → x' ≤ least_of_windows x y y'
no_more hard x y x' y' from implies =
    let c : ℕ = y - x in
    let sum : y ≡ c + x = (let fits = from.fits in omega arith) in
    let some : 0 < y = omega (arith, from.some, from.fits) in
    let all = implies (late c y) 0 y' (late-satisfies hard c x y y' sum some) in
    let window = (all 0 y' (omega arith) (omega arith) (omega arith)).enough in
    let none = missed_is c y 0 0 0 (omega (arith, sum)) (omega arith) some in
    let same : missed (late c y) (0 + y') ≡ missed (late c y) y' = ap (missed (late c y)) (omega arith) in
    omega (arith, window, none, balance (late c y) 0 y', same, late-least x y y' some from.fits)

-- so many whole periods
pub no_further : (hard : Bool) (x y x' k : ℕ) → IsReservation x y → 1 ≤ k
    → Implies (Resc hard x y) (Resc false x' (k * y)) → HasTimes x y x' (k * y)
no_further hard x y x' k from some implies = record {
  times = k;
  some = some;
  enough =
      let pos : 0 < y = omega (arith, from.some, from.fits) in
      let parts : k * y ≡ k * (y - x) + k * x =
      ap (λ n. k * n) (let all : y ≡ y - x + x = omega (arith, from.fits) in all) ∙ omega arith in
      omega (
        arith,
        no_more hard x y x' (k * y) from implies,
        late-least x y (k * y) pos from.fits,
        missed_is (y - x) y k 0 (k * y) (omega arith) (omega arith) pos,
        parts,
      );
  within = omega arith;
}

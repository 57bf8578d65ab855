-- Fractions of bounded numbers meet the conditions of the calls.
use Rattle.std.proofs.Common.{ℕ, ◌+◌, ◌*◌, ◌^◌, ◌<◌, arith}
use Rattle.std.proofs.Math.Nat.{mul-le-mul}
use Rattle.hls_frac.specs.declared.Frac.{Frac}
use Rattle.hls_frac.specs.Frac.{IsWithin, CrossFits, SumFits, ProductFits}

pub cross_fits : {n d m e : ℕ} {a b : Frac} → n * e < 10 ^ 38 → m * d < 10 ^ 38 → IsWithin a n d →
    IsWithin b m e → CrossFits a b
cross_fits left right ha hb = record {
  left = omega (arith, mul-le-mul ha.num hb.den, left);
  right = omega (arith, mul-le-mul hb.num ha.den, right);
}

pub sum_fits : {n d m e : ℕ} {a b : Frac} → n * e + m * d < 10 ^ 38 → d * e < 10 ^ 38 → IsWithin a n d →
    IsWithin b m e → SumFits a b
sum_fits num den ha hb = record {
  num = omega (arith, mul-le-mul ha.num hb.den, mul-le-mul hb.num ha.den, num);
  den = omega (arith, mul-le-mul ha.den hb.den, den);
}

pub product_fits : {n d m e : ℕ} {a b : Frac} → n * m < 10 ^ 38 → d * e < 10 ^ 38 → IsWithin a n d →
    IsWithin b m e → ProductFits a b
product_fits num den ha hb = record {
  num = omega (arith, mul-le-mul ha.num hb.num, num);
  den = omega (arith, mul-le-mul ha.den hb.den, den);
}

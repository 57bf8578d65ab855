-- How large quotients and products of fractions are, and that they can be compared.
use Rattle.std.proofs.Common.{ℕ, ◌+◌, ◌*◌, ◌^◌, ◌≤◌, lit<, arith, mul-le-mul, mul-pos}
use Rattle.hls_frac.specs.declared.Frac.{Frac}
use Rattle.hls_frac.specs.Frac.{IsQuotient, IsProduct, IsWithin, CrossFits}
use Rattle.hls_frac.proofs.Quotients.{quotient-num, quotient-den}
use Rattle.hls_frac.proofs.Limits.{cross_fits}
use Rattle.hls_guarantee.specs.Limits.{IsReservation, IsShare}

pub quotient-within : (f : Frac) (num den n d : ℕ) → 1 ≤ den → num ≤ n → den ≤ d → IsQuotient f num den
    → IsWithin f n d
quotient-within f num den n d some less fewer quotient = record {
  num = (let most = quotient-num f num den some quotient in omega arith);
  den = (let most = quotient-den f num den some quotient in omega arith);
}

pub product-within : {n d m e : ℕ} (f a b : Frac) → IsWithin a n d → IsWithin b m e → IsProduct f a b
    → IsWithin f (n * m) (d * e)
product-within f a b first second product =
    quotient-within f _ _ _ _ (mul-pos a.positive b.positive) (mul-le-mul first.num second.num)
    (mul-le-mul first.den second.den) product

-- a rate is at most 1, so that both of its numbers are small
pub rate-within : (s d : Frac) → IsShare (10 ^ 13) (10 ^ 8) s d → IsWithin s (10 ^ 8) (10 ^ 8)
rate-within s d share = record {
  num = omega (arith, share.fits, share.rate.den);
  den = share.rate.den;
}

-- the products that compare the starts of two shares
pub starts-fit : (s d p e first second : Frac) → IsShare (10 ^ 13) (10 ^ 8) s d
    → IsShare (10 ^ 13) (10 ^ 8) p e
    → IsProduct first d p → IsProduct second e s → CrossFits first second
starts-fit s d p e first second a b left right =
    cross_fits (lit< tt) (lit< tt) (product-within first d p a.error (rate-within p e b) left)
    (product-within second e s b.error (rate-within s d a) right)

pub needed-num : (x den num : ℕ) → x ≤ 20000 → den ≤ 10 ^ 8 → num ≤ 10 ^ 13 → x * den + num ≤ 10 ^ 14
needed-num x den num small fits less =
    let most : x * den ≤ 20000 * 10 ^ 8 = mul-le-mul small fits in
    omega arith

pub given-num : (num y : ℕ) → num ≤ 10 ^ 8 → y ≤ 20000 → num * y ≤ 10 ^ 13
given-num num y fits small =
    let most : num * y ≤ 10 ^ 8 * 20000 = mul-le-mul fits small in
    omega arith

-- the products that compare what is needed of a share with what it gives
pub covers-fit : (s d needed given : Frac) (x y : ℕ) → IsShare (10 ^ 13) (10 ^ 8) s d → IsReservation x y
    → IsQuotient needed (x * d.den + d.num) d.den → IsQuotient given (s.num * y) s.den
    → CrossFits needed given
covers-fit s d needed given x y share size first second =
    let rate = rate-within s d share in
    let small : x ≤ 20000 = omega (arith, size.fits, size.size) in
    cross_fits {n = 10 ^ 14} {d = 10 ^ 8} {m = 10 ^ 13} {e = 10 ^ 8} (lit< tt) (lit< tt)
    (quotient-within needed _ _ _ _ d.positive (needed-num x d.den d.num small share.error.den
    share.error.num)
    share.error.den first)
    (quotient-within given _ _ _ _ s.positive (given-num s.num y rate.num size.size) rate.den second)

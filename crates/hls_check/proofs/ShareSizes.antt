-- How large the fractions of a fair share are.
use Rattle.std.proofs.Common.{ℕ, ◌+◌, ◌-◌, ◌*◌, ◌^◌, ◌≤◌, lit<, arith, mul-le-mul, mul-pos}
use Rattle.hls_frac.specs.declared.Frac.{Frac}
use Rattle.hls_frac.specs.Frac.{IsQuotient, IsProduct, IsSum, IsWithin, SumFits, ProductFits}
use Rattle.hls_frac.proofs.Limits.{sum_fits, product_fits}
use Rattle.hls_chron.specs.declared.plain.Sharing.{Sharing}
use Rattle.hls_guarantee.specs.Limits.{IsShare}
use Rattle.hls_rules.proofs.Sizes.{quotient-within, product-within}

pub sum-within : {n d m e : ℕ} (f a b : Frac) → IsWithin a n d → IsWithin b m e → IsSum f a b
    → IsWithin f (n * e + m * d) (d * e)
sum-within f a b first second sum =
    let left = mul-le-mul first.num second.den in
    let right = mul-le-mul second.num first.den in
    quotient-within f _ _ _ _ (mul-pos a.positive b.positive) (omega arith) (mul-le-mul first.den
    second.den) sum

-- the numbers of a seat and of the scheduler
pub record IsWeight (sharing : Sharing) (weight : ℕ) : Type 0 where
  pub some : 1 ≤ weight
  pub light : weight ≤ 20
  pub fits : weight ≤ sharing.total
  pub small : sharing.total ≤ 100
  pub seats : 1 ≤ sharing.most
  pub few : sharing.most ≤ 20
  pub short : sharing.quantum ≤ 100

part-within : (sharing : Sharing) (weight : ℕ) (part : Frac) → IsWeight sharing weight
    → IsQuotient part weight sharing.total
    → IsWithin part 20 100
part-within sharing weight part size quotient =
    quotient-within part weight sharing.total _ _ (omega (arith, size.some, size.fits)) size.light size.small quotient

others-within : (sharing : Sharing) (weight : ℕ) (others : Frac) → IsWeight sharing weight
    → IsQuotient others ((sharing.most - 1) * sharing.quantum) 1 → IsWithin others 1900 1
others-within sharing weight others size quotient =
    let few : sharing.most - 1 ≤ 19 = omega (arith, size.few) in
    let added : (sharing.most - 1) * sharing.quantum ≤ 19 * 100 = mul-le-mul few size.short in
    quotient-within others ((sharing.most - 1) * sharing.quantum) 1 _ _ (lit< tt) (omega (arith, added)) (lit< tt)
    quotient

rest-within : (sharing : Sharing) (weight : ℕ) (rest : Frac) → IsWeight sharing weight
    → IsQuotient rest ((sharing.total - weight) * sharing.quantum) sharing.total → IsWithin rest 10000 100
rest-within sharing weight rest size quotient =
    let less : sharing.total - weight ≤ 100 = omega (arith, size.small) in
    let added : (sharing.total - weight) * sharing.quantum ≤ 100 * 100 = mul-le-mul less size.short in
    quotient-within rest ((sharing.total - weight) * sharing.quantum) sharing.total _ _
    (omega (arith, size.some, size.fits)) (omega (arith, added)) size.small quotient

pub rate-fits : (sharing : Sharing) (weight : ℕ) (s d part : Frac) → IsShare (10 ^ 13) (10 ^ 8) s d
    → IsWeight sharing weight → IsQuotient part weight sharing.total → ProductFits s part
rate-fits sharing weight s d part share size quotient =
    product_fits (lit< tt) (lit< tt) share.rate (part-within sharing weight part size quotient)

pub waiting-fits : (sharing : Sharing) (weight : ℕ) (s d others : Frac) → IsShare (10 ^ 13) (10 ^ 8) s d
    → IsWeight sharing weight → IsQuotient others ((sharing.most - 1) * sharing.quantum) 1 → SumFits d others
waiting-fits sharing weight s d others share size quotient =
    sum_fits (lit< tt) (lit< tt) share.error (others-within sharing weight others size quotient)

waiting-within : (sharing : Sharing) (weight : ℕ) (s d others waiting : Frac) → IsShare (10 ^ 13) (10 ^ 8) s d
    → IsWeight sharing weight → IsQuotient others ((sharing.most - 1) * sharing.quantum) 1 → IsSum waiting d others
    → IsWithin waiting (10 ^ 13 * 1 + 1900 * 10 ^ 8) (10 ^ 8 * 1)
waiting-within sharing weight s d others waiting share size quotient sum =
    sum-within waiting d others share.error (others-within sharing weight others size quotient) sum

pub slowed-fits : (sharing : Sharing) (weight : ℕ) (s d part others waiting : Frac) → IsShare (10 ^ 13) (10 ^ 8) s d
    → IsWeight sharing weight → IsQuotient part weight sharing.total
    → IsQuotient others ((sharing.most - 1) * sharing.quantum) 1 → IsSum waiting d others → ProductFits waiting part
slowed-fits sharing weight s d part others waiting share size first second sum =
    product_fits (lit< tt) (lit< tt)
    (waiting-within sharing weight s d others waiting share size second sum)
    (part-within sharing weight part size first)

pub error-fits : (sharing : Sharing) (weight : ℕ) (s d part others waiting slowed rest : Frac)
    → IsShare (10 ^ 13) (10 ^ 8) s d → IsWeight sharing weight → IsQuotient part weight sharing.total
    → IsQuotient others ((sharing.most - 1) * sharing.quantum) 1 → IsSum waiting d others
    → IsProduct slowed waiting part
    → IsQuotient rest ((sharing.total - weight) * sharing.quantum) sharing.total → SumFits slowed rest
error-fits sharing weight s d part others waiting slowed rest share size first second sum product left =
    let wait = waiting-within sharing weight s d others waiting share size second sum in
    sum_fits {n = (10 ^ 13 * 1 + 1900 * 10 ^ 8) * 20} {d = 10 ^ 8 * 1 * 100} {m = 10000} {e = 100} (lit< tt)
    (lit< tt) (product-within slowed waiting part wait (part-within sharing weight part size first)
    product)
    (rest-within sharing weight rest size left)

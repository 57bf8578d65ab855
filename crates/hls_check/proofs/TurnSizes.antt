-- How large the fractions of a turn's share are, and that they are one.
use Rattle.std.proofs.Common.{ℕ, ◌+◌, ◌*◌, ◌^◌, ◌≤◌, ap, lit<, arith, mul-pos}
use Rattle.hls_frac.specs.declared.Frac.{Frac}
use Rattle.hls_frac.specs.Frac.{IsQuotient, IsProduct, IsSum, IsWithin, SumFits, ProductFits}
use Rattle.hls_frac.proofs.Limits.{sum_fits, product_fits}
use Rattle.hls_frac.proofs.Order.{cross_same}
use Rattle.hls_guarantee.specs.Limits.{IsShare}
use Rattle.hls_guarantee.specs.Steps.{IsTurnShare}
use Rattle.hls_rules.proofs.Sizes.{quotient-within}
use Rattle.hls_check.proofs.ShareSizes.{sum-within}

part-within : (part : Frac) → IsQuotient part 1 32 → IsWithin part 1 32
part-within part quotient = quotient-within part 1 32 _ _ (omega arith) (omega arith) (omega arith) quotient

others-within : (quantum : ℕ) (others : Frac) → quantum ≤ 100 → IsQuotient others (31 * quantum) 1
    → IsWithin others 3100 1
others-within quantum others small quotient =
    quotient-within others (31 * quantum) 1 _ _ (omega arith) (omega arith) (omega arith) quotient

pub turn_rate-fits : (s d part : Frac) → IsShare (10 ^ 13) (10 ^ 8) s d → IsQuotient part 1 32 → ProductFits s part
turn_rate-fits s d part share quotient =
    product_fits (lit< tt) (lit< tt) share.rate (part-within part quotient)

pub turn_waiting-fits : (quantum : ℕ) (s d others : Frac) → quantum ≤ 100 → IsShare (10 ^ 13) (10 ^ 8) s d
    → IsQuotient others (31 * quantum) 1 → SumFits d others
turn_waiting-fits quantum s d others small share quotient =
    sum_fits (lit< tt) (lit< tt) share.error (others-within quantum others small quotient)

pub turn_error-fits : (quantum : ℕ) (s d part others waiting : Frac) → quantum ≤ 100
    → IsShare (10 ^ 13) (10 ^ 8) s d → IsQuotient part 1 32 → IsQuotient others (31 * quantum) 1
    → IsSum waiting d others → ProductFits waiting part
turn_error-fits quantum s d part others waiting small share first second sum =
    let wait : IsWithin waiting (10 ^ 13 * 1 + 3100 * 10 ^ 8) (10 ^ 8 * 1) =
    sum-within waiting d others share.error (others-within quantum others small second) sum in
    product_fits (lit< tt) (lit< tt) wait (part-within part first)

-- a 32nd part of a fraction
part-quotient : (f a part : Frac) → IsQuotient part 1 32 → IsProduct f a part → IsQuotient f a.num (a.den * 32)
part-quotient f a part quotient product =
    cross_same f.num f.den (a.num * part.num) (a.den * part.den) a.num (a.den * 32) (mul-pos a.positive part.positive)
    product (omega (arith, ap (λ (v : ℕ). v * (a.num * a.den)) quotient))

-- a fraction and a whole number
more-quotient : (f d others : Frac) (n : ℕ) → IsQuotient others n 1 → IsSum f d others
    → IsQuotient f (d.num + n * d.den) d.den
more-quotient f d others n quotient sum =
    cross_same f.num f.den (d.num * others.den + others.num * d.den) (d.den * others.den) (d.num + n * d.den) d.den
    (mul-pos d.positive others.positive) sum (omega (arith, ap (λ (v : ℕ). v * (d.den * d.den)) quotient))

pub turn-share : (quantum : ℕ) (s d part others waiting rate error : Frac) → IsQuotient part 1 32
    → IsQuotient others (31 * quantum) 1 → IsSum waiting d others → IsProduct rate s part
    → IsProduct error waiting part → IsTurnShare quantum s d rate error
turn-share quantum s d part others waiting rate error first second sum left right =
    let wait = more-quotient waiting d others (31 * quantum) second sum in
    let slow = part-quotient error waiting part first right in
    record {
      rate = part-quotient rate s part first left;
      error = cross_same error.num error.den waiting.num (waiting.den * 32) (d.num + 31 * quantum * d.den)
          (d.den * 32) (mul-pos waiting.positive (omega arith)) slow (omega (arith, wait));
    }

-- Fair shares as sums and products of fractions.
use Rattle.std.proofs.Common.{◌≡◌, ℕ, ◌+◌, ◌-◌, ◌*◌, ◌≤◌, refl, sym, subst, ap, arith, mul-pos}
use Rattle.std.proofs.Math.Nat.{eq_of_mul-eq-mul_right}
use Rattle.hls_frac.specs.declared.Frac.{Frac}
use Rattle.hls_frac.specs.Frac.{IsQuotient, IsSum, IsProduct}
use Rattle.hls_frac.proofs.Order.{cross_same}
use Rattle.hls_chron.specs.declared.plain.Sharing.{Sharing}
use Rattle.hls_guarantee.specs.Steps.{IsFairShare}

-- products and sums of quotients, as quotients
product-cross : (a b : Frac) (n d m e : ℕ) → IsQuotient a n d → IsQuotient b m e →
    a.num * b.num * (d * e) ≡ n * m * (a.den * b.den)
product-cross a b n d m e first second =
    let left = ap (λ (v : ℕ). v * (b.num * e)) first in
    let right = ap (λ (v : ℕ). n * a.den * v) second in
    omega (arith, left, right)

product-quotient : (f a b : Frac) (n d m e : ℕ) → IsQuotient a n d → IsQuotient b m e → IsProduct f a b →
    IsQuotient f (n * m) (d * e)
product-quotient f a b n d m e first second product =
    let pos : 1 ≤ a.den * b.den = mul-pos a.positive b.positive in
    cross_same f.num f.den (a.num * b.num) (a.den * b.den) (n * m) (d * e) pos product
    (product-cross a b n d m e first second)

quotient-product : (f a b : Frac) (n d m e : ℕ) → 1 ≤ d * e → IsQuotient a n d → IsQuotient b m e →
    IsQuotient f (n * m) (d * e) → IsProduct f a b
quotient-product f a b n d m e pos first second quotient =
    cross_same f.num f.den (n * m) (d * e) (a.num * b.num) (a.den * b.den) pos quotient
    (sym (product-cross a b n d m e first second))

sum-cross : (a b : Frac) (n d m e : ℕ) → IsQuotient a n d → IsQuotient b m e →
    (a.num * b.den + b.num * a.den) * (d * e) ≡ (n * e + m * d) * (a.den * b.den)
sum-cross a b n d m e first second =
    let left = ap (λ (v : ℕ). v * (b.den * e)) first in
    let right = ap (λ (v : ℕ). v * (a.den * d)) second in
    omega (arith, left, right)

sum-quotient : (f a b : Frac) (n d m e : ℕ) → IsQuotient a n d → IsQuotient b m e → IsSum f a b →
    IsQuotient f (n * e + m * d) (d * e)
sum-quotient f a b n d m e first second sum =
    let pos : 1 ≤ a.den * b.den = mul-pos a.positive b.positive in
    cross_same f.num f.den (a.num * b.den + b.num * a.den) (a.den * b.den) (n * e + m * d) (d * e) pos sum
    (sum-cross a b n d m e first second)

quotient-sum : (f a b : Frac) (n d m e : ℕ) → 1 ≤ d * e → IsQuotient a n d → IsQuotient b m e →
    IsQuotient f (n * e + m * d) (d * e) → IsSum f a b
quotient-sum f a b n d m e pos first second quotient =
    cross_same f.num f.den (n * e + m * d) (d * e) (a.num * b.den + b.num * a.den) (a.den * b.den) pos
    quotient (sym (sum-cross a b n d m e first second))

-- the factor that the total is in both
scaled : (en ed dn dd weight total others rest : ℕ) →
    en * (dd * total) ≡ ((dn + others * dd) * weight + rest * dd) * ed →
    en * (dd * 1 * total * total) ≡
    ((dn * 1 + others * dd) * weight * total + rest * (dd * 1 * total)) * ed
scaled en ed dn dd weight total others rest error = omega (arith, ap (λ (v : ℕ). v * total) error)

unscaled : (en ed dn dd weight total others rest : ℕ) → 1 ≤ total →
    en * (dd * 1 * total * total) ≡
    ((dn * 1 + others * dd) * weight * total + rest * (dd * 1 * total)) * ed →
    en * (dd * total) ≡ ((dn + others * dd) * weight + rest * dd) * ed
unscaled en ed dn dd weight total others rest pos error =
    let left : ℕ = en * (dd * total) in
    let right : ℕ = ((dn + others * dd) * weight + rest * dd) * ed in
    let same : en * (dd * total) * total ≡ ((dn + others * dd) * weight + rest * dd) * ed * total =
    omega (arith, error) in
    eq_of_mul-eq-mul_right total pos left right same

-- the numbers of a seat as fractions: its part of the total, a quantum of each other seat, the wait for them at first,
-- that wait at its pace, and the part of the rest
pub record AreFractions (sharing : Sharing) (weight : ℕ) (d part others waiting slowed rest : Frac) : Type 0 where
  pub part_is : IsQuotient part weight sharing.total
  pub others_are : IsQuotient others ((sharing.most - 1) * sharing.quantum) 1
  pub waiting_is : IsSum waiting d others
  pub slowed_is : IsProduct slowed waiting part
  pub rest_is : IsQuotient rest ((sharing.total - weight) * sharing.quantum) sharing.total

slowed-quotient : (sharing : Sharing) (weight : ℕ) (d part others waiting slowed rest : Frac) →
    AreFractions sharing weight d part others waiting slowed rest →
    IsQuotient slowed ((d.num * 1 + (sharing.most - 1) * sharing.quantum * d.den) * weight) (d.den * 1 * sharing.total)
slowed-quotient sharing weight d part others waiting slowed rest a =
    let wait = sum-quotient waiting d others d.num d.den ((sharing.most - 1) * sharing.quantum) 1 refl a.others_are
    a.waiting_is in
    product-quotient slowed waiting part _ _ weight sharing.total wait a.part_is a.slowed_is

all_positive : (d : Frac) (total : ℕ) → 1 ≤ total → 1 ≤ d.den * 1 * total * total
all_positive d total some =
    let den = d.positive in
    mul-pos (mul-pos (let one : 1 ≤ d.den * 1 = omega arith in one) some) some

pub share-fractions : (sharing : Sharing) (weight : ℕ) (s d part others waiting slowed rest rate error : Frac) →
    1 ≤ weight → AreFractions sharing weight d part others waiting slowed rest →
    IsFairShare sharing weight s d rate error → IsProduct rate s part × IsSum error slowed rest
share-fractions sharing weight s d part others waiting slowed rest rate error some a share =
    let seats = share.seats in
    let weights = share.weights in
    let pos : 1 ≤ sharing.total = omega arith in
    let o : share.others ≡ sharing.most - 1 = omega arith in
    let r : share.rest ≡ sharing.total - weight = omega arith in
    let quantum : ℕ = sharing.quantum in
    let first : IsQuotient error
    ((d.num + (sharing.most - 1) * quantum * d.den) * weight + share.rest * quantum * d.den)
    (d.den * sharing.total) =
    subst (λ n. IsQuotient error ((d.num + n * quantum * d.den) * weight + share.rest * quantum * d.den)
    (d.den * sharing.total)) o share.error in
    let second : IsQuotient error ((d.num + (sharing.most - 1) * quantum * d.den) * weight
    + (sharing.total - weight) * quantum * d.den) (d.den * sharing.total) =
    subst (λ n. IsQuotient error ((d.num + (sharing.most - 1) * quantum * d.den) * weight + n * quantum * d.den)
    (d.den * sharing.total)) r first in
    let whole = scaled error.num error.den d.num d.den weight sharing.total ((sharing.most - 1) * quantum)
    ((sharing.total - weight) * quantum) second in
    let slow = slowed-quotient sharing weight d part others waiting slowed rest a in (
      quotient-product rate s part s.num s.den weight sharing.total (mul-pos s.positive pos) refl a.part_is
          share.rate,
      quotient-sum error slowed rest _ _ _ _ (all_positive d sharing.total pos) slow a.rest_is whole,
    )

pub fractions-share : (sharing : Sharing) (weight : ℕ) (s d part others waiting slowed rest rate error : Frac) →
    1 ≤ sharing.most → 1 ≤ weight → weight ≤ sharing.total →
    AreFractions sharing weight d part others waiting slowed rest →
    IsProduct rate s part × IsSum error slowed rest → IsFairShare sharing weight s d rate error
fractions-share sharing weight s d part others waiting slowed rest rate error some light fits a both =
    let slow = slowed-quotient sharing weight d part others waiting slowed rest a in
    let whole = sum-quotient error slowed rest _ _ _ _ slow a.rest_is both.1 in record {
      others = sharing.most - 1;
      rest = sharing.total - weight;
      seats = omega arith;
      weights = omega arith;
      rate = product-quotient rate s part s.num s.den weight sharing.total refl a.part_is both.0;
      error = unscaled error.num error.den d.num d.den weight sharing.total ((sharing.most - 1) * sharing.quantum)
          ((sharing.total - weight) * sharing.quantum) (omega arith) whole;
    }

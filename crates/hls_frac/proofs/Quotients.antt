-- Fractions in lowest terms: one for each value, in a total order that sums and products keep.
use Rattle.std.proofs.Common.{◌≡◌, ℕ, ◌*◌, ◌/◌, ◌≤◌, refl, ◌⊎◌, inl, inr, ap, sym, subst, arith, mul-pos}
use Rattle.std.specs.Int.{IsGcd}
use Rattle.std.proofs.lemmas.Nat.Gcd.{le_of_dvd}
use Rattle.std.proofs.lemmas.Bool.{cases_lt}
use Rattle.std.proofs.Math.Nat.{mul-le-mul_left, le_of_mul-le-mul_right, eq_of_mul-eq-mul_right}
use denote.Struct.Props
use Rattle.hls_frac.specs.declared.Frac.{Frac}
use Rattle.hls_frac.specs.Frac.{IsQuotient, SameValue, IsAtMost, IsSum, IsProduct}
use Rattle.hls_frac.proofs.Lowest.{same_value, den_positive, over_gcd, gcd_of, den_divides, lowest_same}
use Rattle.hls_frac.proofs.Order.{cross_trans, cross_same, cross_mul, cross_add}

-- what the type says of the two numbers of a fraction
abbrev IsLowest : ℕ → ℕ → Type 0
IsLowest num den = (1 ≤ den) × IsGcd num den 1

IsLowest-prop : (num den : ℕ) → IsProp (IsLowest num den)
IsLowest-prop num den = hlevel Props.props

abbrev frac_of : (num den : ℕ) → IsLowest num den → Frac
frac_of num den h = record { num = num; den = den; positive = h.0; lowest = h.1 }

frac_of-same : (num den m e : ℕ) → num ≡ m → den ≡ e → (h : IsLowest num den) (k : IsLowest m e) →
    frac_of num den h ≡ frac_of m e k
frac_of-same num den m e p q h =
    let same : (k : IsLowest num den) → frac_of num den h ≡ frac_of num den k =
    λ k. ap (frac_of num den) (IsLowest-prop num den h k) in
    let over : (k : IsLowest num e) → frac_of num den h ≡ frac_of num e k =
    subst (λ y. (k : IsLowest num y) → frac_of num den h ≡ frac_of num y k) q same in
    subst (λ x. (k : IsLowest x e) → frac_of num den h ≡ frac_of x e k) p over

-- fractions of the same two numbers are the same
pub same_numbers-same : (a b : Frac) → a.num ≡ b.num → a.den ≡ b.den → a ≡ b
same_numbers-same a b num den =
    frac_of-same a.num a.den b.num b.den num den (a.positive, a.lowest) (b.positive, b.lowest)

-- one value, one fraction
pub same_value-same : (a b : Frac) → SameValue a b → a ≡ b
same_value-same a b e =
    let same = lowest_same a.num a.den b.num b.den a.positive b.positive a.lowest b.lowest e in
    same_numbers-same a b same.0 same.1

pub same-same_value : (a b : Frac) → a ≡ b → SameValue a b
same-same_value a b e = subst (λ x. SameValue a x) e refl

-- every quotient by a number above 0 is a fraction
pub quotient_of : (num den : ℕ) → 1 ≤ den → (f : Frac) × IsQuotient f num den
quotient_of num den some =
    let r = gcd_of num den in (
      frac_of (num / r.0) (den / r.0) (den_positive num den r.0 some r.1, over_gcd num den r.0 some r.1),
      same_value num den r.0 r.1,
    )

-- neither number grows
pub quotient-den : (f : Frac) (num den : ℕ) → 1 ≤ den → IsQuotient f num den → f.den ≤ den
quotient-den f num den some h = le_of_dvd some (den_divides f.num f.den num den some f.lowest h)

pub quotient-num : (f : Frac) (num den : ℕ) → 1 ≤ den → IsQuotient f num den → f.num ≤ num
quotient-num f num den some h =
    let most : f.num * den ≤ num * den =
    omega (arith, h, mul-le-mul_left num (quotient-den f num den some h)) in
    le_of_mul-le-mul_right {k = den} most some

-- the order of two quotients is that of their cross products
pub quotient-at_most : (f g : Frac) (n d m e : ℕ) → 1 ≤ d → 1 ≤ e → IsQuotient f n d → IsQuotient g m e →
    n * e ≤ m * d → IsAtMost f g
quotient-at_most f g n d m e posd pose hf hg cross =
    let first : f.num * e ≤ m * f.den = cross_trans f.num f.den n d m e posd (omega arith) cross in
    cross_trans f.num f.den m e g.num g.den pose first (omega arith)

pub at_most-quotient : (f g : Frac) (n d m e : ℕ) → IsQuotient f n d → IsQuotient g m e → IsAtMost f g →
    n * e ≤ m * d
at_most-quotient f g n d m e hf hg le =
    let first : n * g.den ≤ g.num * d =
    cross_trans n d f.num f.den g.num g.den f.positive (omega arith) le in
    cross_trans n d g.num g.den m e g.positive first (omega arith)

-- two quotients are one fraction where their cross products are equal
pub quotient-same : (f g : Frac) (n d m e : ℕ) → 1 ≤ d → 1 ≤ e → IsQuotient f n d → IsQuotient g m e →
    n * e ≡ m * d → f ≡ g
quotient-same f g n d m e posd pose hf hg cross =
    let first : f.num * e ≡ m * f.den = cross_same f.num f.den n d m e posd hf cross in
    same_value-same f g (cross_same f.num f.den m e g.num g.den pose first (sym hg))

pub same-quotient : (f g : Frac) (n d m e : ℕ) → IsQuotient f n d → IsQuotient g m e → f ≡ g → n * e ≡ m * d
same-quotient f g n d m e hf hg same =
    let value : SameValue f g = same-same_value f g same in
    let first : n * g.den ≡ g.num * d =
    cross_same n d f.num f.den g.num g.den f.positive (sym hf) value in
    cross_same n d g.num g.den m e g.positive first hg

-- a total order
pub at_most-total : (a b : Frac) → IsAtMost a b ⊎ IsAtMost b a
at_most-total a b =
    elim (cases_lt (a.num * b.den) (b.num * a.den)) [ inl h ↦ inl (omega arith) | inr h ↦ inr h ]

pub at_most-trans : (a b c : Frac) → IsAtMost a b → IsAtMost b c → IsAtMost a c
at_most-trans a b c low high = cross_trans a.num a.den b.num b.den c.num c.den b.positive low high

pub at_most-same : (a b : Frac) → IsAtMost a b → IsAtMost b a → a ≡ b
at_most-same a b low high = same_value-same a b (omega arith)

-- sums and products grow with both parts
pub sum-grows : (a b c d s t : Frac) → IsSum s a b → IsSum t c d → IsAtMost a c → IsAtMost b d → IsAtMost s t
sum-grows a b c d s t hs ht left right =
    quotient-at_most s t _ _ _ _ (mul-pos a.positive b.positive) (mul-pos c.positive d.positive) hs ht
    (cross_add a.num a.den c.num c.den b.num b.den d.num d.den left right)

pub product-grows : (a b c d s t : Frac) → IsProduct s a b → IsProduct t c d → IsAtMost a c → IsAtMost b d →
    IsAtMost s t
product-grows a b c d s t hs ht left right =
    quotient-at_most s t _ _ _ _ (mul-pos a.positive b.positive) (mul-pos c.positive d.positive) hs ht
    (cross_mul a.num a.den c.num c.den b.num b.den d.num d.den left right)

-- a common factor goes out
pub quotient-cancel : (f : Frac) (num den k : ℕ) → 1 ≤ k → IsQuotient f (k * num) (k * den) →
    IsQuotient f num den
quotient-cancel f num den k some h =
    let value : f.num * den * k ≡ num * f.den * k = omega (arith, h) in
    eq_of_mul-eq-mul_right k some (f.num * den) (num * f.den) value

pub quotient-scale : (f : Frac) (num den k : ℕ) → IsQuotient f num den → IsQuotient f (k * num) (k * den)
quotient-scale f num den k h = omega (arith, ap (λ v. k * v) h)

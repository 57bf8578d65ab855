-- Fractions in whole numbers, by cross products.
use Rattle.std.specs.Prelude.{◌≡◌, ℕ, ◌+◌, ◌*◌, ◌^◌, ◌<◌, ◌≤◌}
use Rattle.hls_frac.specs.declared.Frac.{Frac}

-- f = num / den; that f is in lowest terms, its type says
abbrev pub IsQuotient : Frac → (num den : ℕ) → Type 0
IsQuotient f num den = f.num * den ≡ num * f.den

-- a = b
abbrev pub SameValue : Frac → Frac → Type 0
SameValue a b = a.num * b.den ≡ b.num * a.den

-- a ≤ b
abbrev pub IsAtMost : Frac → Frac → Type 0
IsAtMost a b = a.num * b.den ≤ b.num * a.den

-- f = a + b
abbrev pub IsSum : Frac → Frac → Frac → Type 0
IsSum f a b = IsQuotient f (a.num * b.den + b.num * a.den) (a.den * b.den)

-- f = a * b
abbrev pub IsProduct : Frac → Frac → Frac → Type 0
IsProduct f a b = IsQuotient f (a.num * b.num) (a.den * b.den)

-- the products that compare a and b are below 10 ^ 38
pub record CrossFits (a b : Frac) : Type 0 where
  pub left : a.num * b.den < 10 ^ 38
  pub right : b.num * a.den < 10 ^ 38

-- the products and the sum of a + b are below 10 ^ 38
pub record SumFits (a b : Frac) : Type 0 where
  pub num : a.num * b.den + b.num * a.den < 10 ^ 38
  pub den : a.den * b.den < 10 ^ 38

-- the products of a * b are below 10 ^ 38
pub record ProductFits (a b : Frac) : Type 0 where
  pub num : a.num * b.num < 10 ^ 38
  pub den : a.den * b.den < 10 ^ 38

-- numbers at most these two
pub record IsWithin (f : Frac) (most_num most_den : ℕ) : Type 0 where
  pub num : f.num ≤ most_num
  pub den : f.den ≤ most_den

-- A quotient that was made is the one of its two numbers.
use Rattle.std.proofs.Common.{◌≡◌, ℕ, suc, zero, ◌≤◌, true, false, refl, ap, arith}
use Rattle.std.specs.Prelude.{◌↔◌, Option, Some, None, IsSome, IfSome}
use Rattle.std.proofs.Math.Nat.{zero-lt-suc}
use Rattle.hls_frac.specs.declared.Frac.{Frac}
use Rattle.hls_frac.specs.Frac.{IsQuotient}
use Rattle.hls_frac.proofs.Quotients.{quotient_of, quotient-same}
use Rattle.hls_lang.specs.Words.{quotient}

-- every fraction of this value
pub is_quotient : (f : Frac) (num den : ℕ) → 1 ≤ den → IsQuotient f num den → quotient num den ≡ Some f
is_quotient f num zero some value = absurd (omega arith)
is_quotient f num (suc den) some value =
    let q = quotient_of num (suc den) (zero-lt-suc den) in
    ap (λ (g : Frac). Some g)
    (quotient-same q.0 f num (suc den) num (suc den) (omega arith) (omega arith) q.1 value refl)

pub made_is : (made : Option Frac) (num den : ℕ) → (IsSome made ↔ (1 ≤ den))
    → IfSome made (λ f. IsQuotient f num den) → made ≡ quotient num den
made_is None num zero some value = refl
made_is None num (suc den) some value = absurd (let e : false ≡ true = some.1 (omega arith) in cc)
made_is (Some f) num zero some value = absurd (let le : 1 ≤ 0 = some.0 refl in omega arith)
made_is (Some f) num (suc den) some value =
    let e = is_quotient f num (suc den) (omega arith) value in cc

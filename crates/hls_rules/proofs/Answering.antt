-- A rule has at most one strongest conclusion, and what is answered by it.
use Rattle.std.proofs.Common.{◌≡◌, ℕ, ◌*◌, ◌≤◌, false, inl, inr, refl, sym, subst, ap}
use Rattle.std.proofs.Common.{arith, mul-pos}
use Rattle.std.specs.Prelude.{Option, Some, None, IfSome, IsNone}
use Rattle.std.proofs.Math.Nat.{eq_of_mul-eq-mul_right}
use Rattle.hls_frac.specs.declared.Frac.{Frac}
use Rattle.hls_frac.proofs.Quotients.{same_value-same, at_most-same}
use Rattle.hls_guarantee.specs.declared.Guarantee.{Guarantee}
use Rattle.hls_guarantee.specs.declared.Guarantee.TheVariants.{Resb, Resc, Psbe}
use Rattle.hls_guarantee.specs.declared.rule.RuleName.{RuleName}
use Rattle.hls_guarantee.specs.declared.rule.RuleName.TheVariants.{R1}
use Rattle.hls_guarantee.specs.Conversions.{StartsNoLater, Converts}
use Rattle.hls_derive.specs.Answers.{IsStrongest, Answers}
use Rattle.hls_rules.proofs.BestOnes.{psbe-same}

-- of one rate, two errors that start no later than each other
same_start : (a b p q c d : ℕ) → 1 ≤ a → 1 ≤ b → p * a * (d * b) ≤ c * a * (q * b)
    → c * a * (q * b) ≤ p * a * (d * b) → p * d ≡ c * q
same_start a b p q c d num den one two =
    let pos : 1 ≤ a * b = mul-pos num den in
    let even : p * d * (a * b) ≡ c * q * (a * b) = omega arith in
    eq_of_mul-eq-mul_right (a * b) pos (p * d) (c * q) even

same_error : (s d t e : Frac) → 1 ≤ s.num → s ≡ t → StartsNoLater s d t e → StartsNoLater t e s d → d ≡ e
same_error s d t e some same first second =
    let one : StartsNoLater s d s e = subst (λ v. StartsNoLater s d v e) (sym same) first in
    let two : StartsNoLater s e s d = subst (λ v. StartsNoLater v e s d) (sym same) second in
    same_value-same d e (same_start s.num s.den d.num d.den e.num e.den some s.positive one two)

-- what gives each other by R1 is the same
both-same : (g h : Guarantee) → Converts R1 g h → Converts R1 h g → g ≡ h
both-same (Resc false x y) (Resc false u v) c d =
    let first : x ≡ u = (let a = c.leads.0 in let b = d.leads.0 in omega arith) in
    let second : y ≡ v = (let a = c.leads.1 in let b = d.leads.1 in omega arith) in
    cc
both-same (Resb false x y) (Resb false u v) c d =
    let first : x ≡ u = (let a = c.leads.0 in let b = d.leads.0 in omega arith) in
    let second : y ≡ v = sym c.leads.1 in
    cc
both-same (Psbe s d) (Psbe t e) c back =
    let same : s ≡ t = at_most-same s t back.leads.0 c.leads.0 in
    psbe-same s d t e same (same_error s d t e c.from.some same c.leads.1 back.leads.1)
both-same _ _ c d = absurd c.leads

pub strongest-same : (rule : RuleName) (g h k : Guarantee) → IsStrongest rule g h → IsStrongest rule g k
    → h ≡ k
strongest-same rule g h k one two = elim (one.best k two.concluded) [
  | inl same ↦ sym same
  | inr gives ↦ elim (two.best h one.concluded) [
    | inl same ↦ same
    | inr back ↦ both-same h k gives back
  ]
]

pub met-answers : (rule : RuleName) (g wanted : Guarantee) → Converts rule g wanted
    → Answers rule g wanted (Some wanted)
met-answers rule g wanted c = record {
  meets = λ d. refl;
  leads = λ not h best. absurd (not c);
  lacks = λ not none. absurd (not c);
}

found_leads : (rule : RuleName) (g h : Guarantee) (found : Option Guarantee)
    → IfSome found (λ k. IsStrongest rule g k)
    → (IsNone found → (k : Guarantee) → IsStrongest rule g k → ⊥) → IsStrongest rule g h → found ≡ Some h
found_leads rule g h (Some k) best lacks at =
    ap (λ (v : Guarantee). Some v) (strongest-same rule g k h best at)
found_leads rule g h None best lacks at = absurd (lacks refl h at)

found_lacks : (rule : RuleName) (g : Guarantee) (found : Option Guarantee)
    → IfSome found (λ k. IsStrongest rule g k) → ((k : Guarantee) → IsStrongest rule g k → ⊥) → found ≡ None
found_lacks rule g (Some k) best none = absurd (none k best)
found_lacks rule g None best none = refl

pub found-answers : (rule : RuleName) (g wanted : Guarantee) (found : Option Guarantee)
    → (Converts rule g wanted → ⊥) → IfSome found (λ k. IsStrongest rule g k)
    → (IsNone found → (k : Guarantee) → IsStrongest rule g k → ⊥) → Answers rule g wanted found
found-answers rule g wanted found not best lacks = record {
  meets = λ c. absurd (not c);
  leads = λ _ h at. found_leads rule g h found best lacks at;
  lacks = λ _ none. found_lacks rule g found best none;
}

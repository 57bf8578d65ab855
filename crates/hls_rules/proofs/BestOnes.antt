-- Which rules have a strongest conclusion.
use Rattle.std.proofs.Common.{◌≡◌, ℕ, ◌+◌, ◌*◌, ◌-◌, ◌^◌, ◌≤◌, Bool, true, false, ◌⊎◌, inl, inr, refl, sym}
use Rattle.std.proofs.Common.{subst}
use Rattle.std.proofs.Common.{zero, suc, ◌∙◌, ap, arith, mul-le-mul, mul-le-mul_left, lit<}
use Rattle.std.proofs.Math.Nat.{le_of_mul-le-mul_right}
use Rattle.std.specs.Prelude.{Option, Some, None, IfSome, IsNone}
use Rattle.hls_frac.specs.declared.Frac.{Frac}
use Rattle.hls_frac.specs.Frac.{IsQuotient}
use Rattle.hls_frac.proofs.Quotients.{quotient-same}
use Rattle.hls_guarantee.specs.declared.Guarantee.{Guarantee}
use Rattle.hls_guarantee.specs.declared.Guarantee.TheVariants.{All, Null, Resb, Resc, Psbe}
use Rattle.hls_guarantee.specs.declared.rule.RuleName.{RuleName}
use Rattle.hls_guarantee.specs.declared.rule.RuleName.TheVariants.{R1, R2, R3, R4, R5, R6, R7, R8, R9, R10, R11}
use Rattle.hls_guarantee.specs.Limits.{IsReservation, IsValid}
use Rattle.hls_guarantee.specs.Conversions.{IsError, Leads, Converts}
use Rattle.hls_guarantee.proofs.Readings.{error-quotient, quotient-error}
use Rattle.hls_derive.specs.Answers.{IsStrongest}
use Rattle.hls_rules.proofs.Sizes.{quotient-within}

pub psbe-same : (s d t e : Frac) → s ≡ t → d ≡ e → Psbe s d ≡ Psbe t e
psbe-same s d t e first second = ap (λ (f : Frac). Psbe f d) first ∙ ap (λ (f : Frac). Psbe t f) second

-- ---- the share of a reservation

error-num : (m x y : ℕ) → m ≤ 40000 → y ≤ 20000 → m * (y - x) ≤ 10 ^ 13
error-num m x y most size =
    let rest : y - x ≤ 20000 = omega arith in
    let product : m * (y - x) ≤ 40000 * 20000 = mul-le-mul most rest in
    omega arith

rate_fits : (num den x y : ℕ) → 1 ≤ y → x ≤ y → num * y ≡ x * den → num ≤ den
rate_fits num den x y some fits quotient =
    let bound = mul-le-mul_left den fits in
    let scaled : num * y ≤ den * y = omega arith in
    le_of_mul-le-mul_right {k = y} scaled some

le_one : (n : ℕ) → (n ≡ 0) ⊎ (1 ≤ n)
le_one zero = inl refl
le_one (suc n) = inr (omega arith)

rate_some : (num den x y : ℕ) → 1 ≤ x → 1 ≤ den → num * y ≡ x * den → 1 ≤ num
rate_some num den x y some pos quotient =
    let bound : 1 * 1 ≤ x * den = mul-le-mul some pos in
    elim (le_one num) [
      | inl none ↦
          let gone : num * y ≡ 0 = ap (λ (n : ℕ). n * y) none ∙ omega arith in
          absurd (omega arith)
      | inr more ↦ more
    ]

pub share-valid : (s d : Frac) (x y m : ℕ) → IsReservation x y → m ≤ 40000 → IsQuotient s x y
    → IsQuotient d (m * (y - x)) y → IsValid (Psbe s d)
share-valid s d x y m size most rate error =
    let pos : 1 ≤ y = omega (arith, size.some, size.fits) in
    let y_most : y ≤ 10 ^ 8 = omega (arith, size.size) in
    let x_most : x ≤ 10 ^ 13 = omega (arith, size.fits, size.size) in
    record {
      some = rate_some s.num s.den x y size.some s.positive rate;
      fits = rate_fits s.num s.den x y pos size.fits rate;
      rate = quotient-within s x y _ _ pos x_most y_most rate;
      error = quotient-within d _ y _ _ pos (error-num m x y most size.size) y_most error;
    }

same-share : (s d t e : Frac) (x y m : ℕ) → IsReservation x y → IsQuotient s x y
    → IsQuotient d (m * (y - x)) y
    → IsQuotient t x y → IsError e m x y → Psbe t e ≡ Psbe s d
same-share s d t e x y m size rate error other left =
    let some : 1 ≤ y = omega (arith, size.some, size.fits) in
    let sum : y ≡ (y - x) + x = (let fits = size.fits in omega arith) in
    let wrong = error-quotient e m x y (y - x) sum left in
    psbe-same t e s d (quotient-same t s _ _ _ _ some some other rate refl)
    (quotient-same e d _ _ _ _ some some wrong error refl)

best_blocks : (hard : Bool) (s d : Frac) (x y : ℕ) → IsReservation x y → IsQuotient s x y
    → IsQuotient d (2 * x * (y - x)) y → (k : Guarantee) → Converts R4 (Resb hard x y) k
    → (k ≡ Psbe s d) ⊎ Converts R1 (Psbe s d) k
best_blocks hard s d x y size rate error (Psbe t e) c =
    inl (same-share s d t e x y (2 * x) size rate error c.leads.0 c.leads.1)
best_blocks hard s d x y size rate error k c = absurd c.leads

best_windows : (hard : Bool) (s d : Frac) (x y : ℕ) → IsReservation x y → IsQuotient s x y
    → IsQuotient d (x * (y - x)) y → (k : Guarantee) → Converts R5 (Resc hard x y) k
    → (k ≡ Psbe s d) ⊎ Converts R1 (Psbe s d) k
best_windows hard s d x y size rate error (Psbe t e) c =
    inl (same-share s d t e x y x size rate error c.leads.0 c.leads.1)
best_windows hard s d x y size rate error k c = absurd c.leads

-- the share x / y with the error m * (y - x) / y
pub record IsShareOf (x y m : ℕ) (g : Guarantee) : Type 0 where
  pub rate : Frac
  pub error : Frac
  pub is : g ≡ Psbe rate error
  pub rate_is : IsQuotient rate x y
  pub error_is : IsQuotient error (m * (y - x)) y

blocks_share : (hard : Bool) (s d : Frac) (x y : ℕ) → IsReservation x y → IsQuotient s x y
    → IsQuotient d (2 * x * (y - x)) y → IsStrongest R4 (Resb hard x y) (Psbe s d)
blocks_share hard s d x y size rate error =
    let sum : y ≡ (y - x) + x = (let fits = size.fits in omega arith) in
    record {
      concluded = record {
        from = size;
        to = share-valid s d x y (2 * x) size (omega (arith, size.fits, size.size)) rate error;
        leads = (rate, quotient-error d (2 * x) x y (y - x) sum error);
      };
      best = best_blocks hard s d x y size rate error;
    }

windows_share : (hard : Bool) (s d : Frac) (x y : ℕ) → IsReservation x y → IsQuotient s x y
    → IsQuotient d (x * (y - x)) y → IsStrongest R5 (Resc hard x y) (Psbe s d)
windows_share hard s d x y size rate error =
    let sum : y ≡ (y - x) + x = (let fits = size.fits in omega arith) in
    record {
      concluded = record {
        from = size;
        to = share-valid s d x y x size (omega (arith, size.fits, size.size)) rate error;
        leads = (rate, quotient-error d x x y (y - x) sum error);
      };
      best = best_windows hard s d x y size rate error;
    }

pub blocks-strongest : {rule : RuleName} {g h : Guarantee} {hard : Bool} {x y : ℕ} → rule ≡ R4
    → g ≡ Resb hard x y → IsValid g → IsShareOf x y (2 * x) h → IsStrongest rule g h
blocks-strongest {rule} {g} {h} {hard} {x} {y} first second valid share =
    let size : IsReservation x y = subst IsValid second valid in
    let at = blocks_share hard share.rate share.error x y size share.rate_is share.error_is in
    subst (λ v. IsStrongest v g h) (sym first) (subst (λ v. IsStrongest R4 v h) (sym second)
    (subst (λ v. IsStrongest R4 (Resb hard x y) v) (sym share.is) at))

pub windows-strongest : {rule : RuleName} {g h : Guarantee} {hard : Bool} {x y : ℕ} → rule ≡ R5
    → g ≡ Resc hard x y → IsValid g → IsShareOf x y x h → IsStrongest rule g h
windows-strongest {rule} {g} {h} {hard} {x} {y} first second valid share =
    let size : IsReservation x y = subst IsValid second valid in
    let at = windows_share hard share.rate share.error x y size share.rate_is share.error_is in
    subst (λ v. IsStrongest v g h) (sym first) (subst (λ v. IsStrongest R5 v h) (sym second)
    (subst (λ v. IsStrongest R5 (Resc hard x y) v) (sym share.is) at))

-- ---- rules without one: blocks and windows do not give each other

least : IsReservation 1 1
least = record { some = lit< tt; fits = lit< tt; size = lit< tt }

no_windows : (hard : Bool) (u v x y : ℕ) → Leads R1 (Resb hard u v) (Resc false x y) → ⊥
no_windows true u v x y leads = leads
no_windows false u v x y leads = leads

no_blocks : (hard : Bool) (u v x y : ℕ) → Leads R1 (Resc hard u v) (Resb false x y) → ⊥
no_blocks true u v x y leads = leads
no_blocks false u v x y leads = leads

-- a rule that concludes both has no strongest conclusion
both_kinds : (rule : RuleName) (g h : Guarantee) (x y : ℕ) → Converts rule g (Resb false x y)
    → Converts rule g (Resc false x y) → IsStrongest rule g h → ⊥
both_kinds rule g (Resb hard u v) x y blocks windows strongest = elim (strongest.best _ windows) [
  | inl same ↦ (let no : Resc false x y ≡ Resb hard u v = same in cc)
  | inr gives ↦ absurd (no_windows hard u v x y gives.leads)
]
both_kinds rule g (Resc hard u v) x y blocks windows strongest = elim (strongest.best _ blocks) [
  | inl same ↦ (let no : Resb false x y ≡ Resc hard u v = same in cc)
  | inr gives ↦ absurd (no_blocks hard u v x y gives.leads)
]
both_kinds rule g All x y blocks windows strongest = elim (strongest.best _ blocks) [
  | inl same ↦ (let no : Resb false x y ≡ All = same in cc)
  | inr gives ↦ absurd gives.leads
]
both_kinds rule g Null x y blocks windows strongest = elim (strongest.best _ blocks) [
  | inl same ↦ (let no : Resb false x y ≡ Null = same in cc)
  | inr gives ↦ absurd gives.leads
]
both_kinds rule g (Psbe s d) x y blocks windows strongest = elim (strongest.best _ blocks) [
  | inl same ↦ (let no : Resb false x y ≡ Psbe s d = same in cc)
  | inr gives ↦ absurd gives.leads
]

pub no-share : (g h : Guarantee) → IsStrongest R6 g h → ⊥
no-share (Psbe s d) (Resc false x y) strongest =
    let c = strongest.concluded in
    both_kinds R6 (Psbe s d) (Resc false x y) x y (record { from = c.from; to = c.to; leads = c.leads }) c
    strongest
no-share (Psbe s d) (Resb false x y) strongest =
    let c = strongest.concluded in
    both_kinds R6 (Psbe s d) (Resb false x y) x y c (record { from = c.from; to = c.to; leads = c.leads })
    strongest
no-share _ _ strongest = absurd strongest.concluded.leads

pub no-whole : (g h : Guarantee) → IsStrongest R8 g h → ⊥
no-whole All h strongest =
    both_kinds R8 All h 1 1 (record { from = tt; to = least; leads = tt })
    (record { from = tt; to = least; leads = tt }) strongest
no-whole _ _ strongest = absurd strongest.concluded.leads

-- the other rules have one
pub record IsOther (rule : RuleName) : Type 0 where
  pub not_1 : rule ≡ R1 → ⊥
  pub not_2 : rule ≡ R2 → ⊥
  pub not_3 : rule ≡ R3 → ⊥
  pub not_4 : rule ≡ R4 → ⊥
  pub not_5 : rule ≡ R5 → ⊥
  pub not_7 : rule ≡ R7 → ⊥
  pub not_9 : rule ≡ R9 → ⊥
  pub not_10 : rule ≡ R10 → ⊥
  pub not_11 : rule ≡ R11 → ⊥

pub other-lacks : (rule : RuleName) (g h : Guarantee) → IsOther rule → IsStrongest rule g h → ⊥
other-lacks R1 g h other strongest = other.not_1 refl
other-lacks R2 g h other strongest = other.not_2 refl
other-lacks R3 g h other strongest = other.not_3 refl
other-lacks R4 g h other strongest = other.not_4 refl
other-lacks R5 g h other strongest = other.not_5 refl
other-lacks R6 g h other strongest = no-share g h strongest
other-lacks R7 g h other strongest = other.not_7 refl
other-lacks R8 g h other strongest = no-whole g h strongest
other-lacks R9 g h other strongest = other.not_9 refl
other-lacks R10 g h other strongest = other.not_10 refl
other-lacks R11 g h other strongest = other.not_11 refl

-- ---- rules that conclude one guarantee at most

abbrev pub IsSingle : RuleName → Type 0
IsSingle R2 = Unit {0}
IsSingle R4 = Unit {0}
IsSingle R5 = Unit {0}
IsSingle R7 = Unit {0}
IsSingle R9 = Unit {0}
IsSingle _ = ⊥

pub single_of : {rule : RuleName}
    → (rule ≡ R2) ⊎ ((rule ≡ R4) ⊎ ((rule ≡ R5) ⊎ ((rule ≡ R7) ⊎ (rule ≡ R9)))) → IsSingle rule
single_of (inl e) = subst IsSingle (sym e) tt
single_of (inr (inl e)) = subst IsSingle (sym e) tt
single_of (inr (inr (inl e))) = subst IsSingle (sym e) tt
single_of (inr (inr (inr (inl e)))) = subst IsSingle (sym e) tt
single_of (inr (inr (inr (inr e)))) = subst IsSingle (sym e) tt

same_errors : (t e u f : Frac) (x y m : ℕ) → IsReservation x y → IsQuotient t x y → IsQuotient u x y
    → IsError e m x y → IsError f m x y → Psbe t e ≡ Psbe u f
same_errors t e u f x y m size first second left right =
    let some : 1 ≤ y = omega (arith, size.some, size.fits) in
    let sum : y ≡ (y - x) + x = (let fits = size.fits in omega arith) in
    psbe-same t e u f (quotient-same t u _ _ _ _ some some first second refl)
    (quotient-same e f _ _ _ _ some some (error-quotient e m x y (y - x) sum left)
    (error-quotient f m x y (y - x) sum right) refl)

-- two conclusions of such a rule are one
one_leads : (rule : RuleName) (g h k : Guarantee) → IsSingle rule → IsValid g → Leads rule g h
    → Leads rule g k
    → h ≡ k
one_leads R2 (Resb true x y) h k single valid a b = a ∙ sym b
one_leads R2 (Resc true x y) h k single valid a b = a ∙ sym b
one_leads R4 (Resb hard x y) (Psbe t e) (Psbe u f) single valid a b =
    same_errors t e u f x y (2 * x) valid a.0 b.0 a.1 b.1
one_leads R4 (Resb hard x y) (Psbe t e) k single valid a b = absurd b
one_leads R5 (Resc hard x y) (Psbe t e) (Psbe u f) single valid a b =
    same_errors t e u f x y x valid a.0 b.0 a.1 b.1
one_leads R5 (Resc hard x y) (Psbe t e) k single valid a b = absurd b
one_leads R7 (Resc hard x y) h k single valid a b = a ∙ sym b
one_leads R9 g h k single valid a b = a ∙ sym b
one_leads R10 g h k single valid a b = absurd single
one_leads R11 g h k single valid a b = absurd single
one_leads R1 g h k single valid a b = absurd single
one_leads R3 g h k single valid a b = absurd single
one_leads R6 g h k single valid a b = absurd single
one_leads R8 g h k single valid a b = absurd single
one_leads _ _ _ _ single valid a b = absurd a

pub single-strongest : (rule : RuleName) (g h : Guarantee) → IsSingle rule → Converts rule g h
    → IsStrongest rule g h
single-strongest rule g h single c = record {
  concluded = c;
  best = λ k d. inl (one_leads rule g k h single c.from d.leads c.leads);
}

-- what such a rule concludes is its strongest conclusion
pub found-converts : (rule : RuleName) (g h : Guarantee) (found : Option Guarantee)
    → IfSome found (λ k. IsStrongest rule g k) → found ≡ Some h → Converts rule g h
found-converts rule g h (Some k) best same =
    let one : k ≡ h = cc in
    subst (λ v. Converts rule g v) one best.concluded
found-converts rule g h None best same = (let no : ⊥ = cc in absurd no)

pub converts-found : (rule : RuleName) (g h : Guarantee) (found : Option Guarantee) → IsSingle rule
    → IfSome found (λ k. IsStrongest rule g k)
    → (IsNone found → (k : Guarantee) → IsStrongest rule g k → ⊥) → Converts rule g h → found ≡ Some h
converts-found rule g h (Some k) single best lacks c =
    ap (λ (v : Guarantee). Some v) (one_leads rule g k h single c.from best.concluded.leads c.leads)
converts-found rule g h None single best lacks c =
    absurd (lacks refl h (single-strongest rule g h single c))

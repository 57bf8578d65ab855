-- Whether a rule leads to a guarantee, and whether it has a strongest conclusion, is decided. So what is
-- answered is concluded.
use Rattle.std.proofs.Common.{◌≡◌, ℕ, ◌+◌, ◌*◌, ◌-◌, ◌/◌, ◌≤◌, Bool, true, false, ◌⊎◌, inl, inr, refl, sym}
use Rattle.std.proofs.Common.{subst, ◌∙◌, arith}
use Rattle.std.specs.Prelude.{Option, Some, None, IfSome}
use Rattle.std.proofs.lemmas.Bool.{cases_lt}
use Rattle.hls_frac.specs.declared.Frac.{Frac}
use Rattle.hls_frac.specs.Frac.{IsQuotient, IsAtMost}
use Rattle.hls_frac.proofs.Quotients.{quotient_of}
use Rattle.hls_guarantee.specs.declared.Guarantee.{Guarantee}
use Rattle.hls_guarantee.specs.declared.Guarantee.TheVariants.{All, Null, Resb, Resc, Psbe}
use Rattle.hls_guarantee.specs.declared.rule.RuleName.{RuleName}
use Rattle.hls_guarantee.specs.declared.rule.RuleName.TheVariants.{R1, R2, R3, R4, R5, R6, R7, R8, R9, R10, R11}
use Rattle.hls_guarantee.specs.contracts.GuaranteePartialEq.TheImpl.{eq-value}
use Rattle.hls_guarantee.specs.Limits.{IsReservation, IsValid}
use Rattle.hls_guarantee.specs.Conversions.{StartsNoLater, IsError, HasTimes, Leads, Converts}
use Rattle.hls_guarantee.proofs.Times.{most_times, times_of}
use Rattle.hls_derive.specs.Answers.{IsStrongest, Answers}
use Rattle.hls_rules.proofs.Equal.{equal-same, equal-self}
use Rattle.hls_rules.proofs.BestOnes.{IsSingle, single-strongest, no-share, no-whole, blocks-strongest}
use Rattle.hls_rules.proofs.BestOnes.{windows-strongest}
use Rattle.hls_rules.proofs.LongerOnes.{one-strongest, blocks-lack, once-strongest, windows-lack}

le_or : (a b : ℕ) → (a ≤ b) ⊎ (a ≤ b → ⊥)
le_or a b = elim (cases_lt b a) [ inl less ↦ inr (λ most. absurd (omega arith)) | inr most ↦ inl most ]

eq_or : (a b : ℕ) → (a ≡ b) ⊎ (a ≡ b → ⊥)
eq_or a b = elim (cases_lt a b) [
  | inl less ↦ inr (λ same. absurd (omega arith))
  | inr most ↦ elim (cases_lt b a) [
    | inl less ↦ inr (λ same. absurd (omega arith))
    | inr more ↦ inl (omega arith)
  ]
]

both_or : (A B : Type 0) → A ⊎ (A → ⊥) → B ⊎ (B → ⊥) → (A × B) ⊎ ((A × B) → ⊥)
both_or A B (inl a) (inl b) = inl (a, b)
both_or A B (inr never) second = inr (λ both. never both.0)
both_or A B (inl a) (inr never) = inr (λ both. never both.1)

same_by : (g h : Guarantee) (b : Bool) → eq-value.it g h ≡ b → (g ≡ h) ⊎ (g ≡ h → ⊥)
same_by g h true e = inl (equal-same g h e)
same_by g h false e = inr (λ same.
    let self : eq-value.it g h ≡ true = subst (λ v. eq-value.it g v ≡ true) same (equal-self g) in
    let no : true ≡ false = sym self ∙ e in
    (let none : ⊥ = cc in none))

same_or : (g h : Guarantee) → (g ≡ h) ⊎ (g ≡ h → ⊥)
same_or g h = same_by g h (eq-value.it g h) refl

times_or : (x y u v : ℕ) → 1 ≤ y → HasTimes x y u v ⊎ (HasTimes x y u v → ⊥)
times_or x y u v some = elim (both_or (1 ≤ v / y) (u ≤ v / y * x) (le_or 1 (v / y)) (le_or u (v / y * x))) [
  | inl both ↦ inl (times_of x y u v some both)
  | inr never ↦ inr (λ has. never (most_times x y u v some has))
]

leads_or : (rule : RuleName) (g h : Guarantee) → IsValid g → Leads rule g h ⊎ (Leads rule g h → ⊥)
leads_or R1 (Resc false x y) (Resc false u v) valid = both_or (u ≤ x) (y ≤ v) (le_or u x) (le_or y v)
leads_or R1 (Resb false x y) (Resb false u v) valid = both_or (u ≤ x) (v ≡ y) (le_or u x) (eq_or v y)
leads_or R1 (Psbe s d) (Psbe t e) valid =
    both_or (IsAtMost t s) (StartsNoLater s d t e) (le_or (t.num * s.den) (s.num * t.den))
    (le_or (d.num * t.num * (e.den * s.den)) (e.num * s.num * (d.den * t.den)))
leads_or R2 (Resb true x y) h valid = same_or h (Resb false x y)
leads_or R2 (Resc true x y) h valid = same_or h (Resc false x y)
leads_or R3 (Resb hard x y) (Resc false u v) valid =
    both_or (u ≤ x) (2 * y ≤ x + v) (le_or u x) (le_or (2 * y) (x + v))
leads_or R4 (Resb hard x y) (Psbe s d) valid =
    both_or (IsQuotient s x y) (IsError d (2 * x) x y) (eq_or (s.num * y) (x * s.den))
    (eq_or (d.num * y + 2 * x * x * d.den) (2 * x * y * d.den))
leads_or R5 (Resc hard x y) (Psbe s d) valid =
    both_or (IsQuotient s x y) (IsError d x x y) (eq_or (s.num * y) (x * s.den))
    (eq_or (d.num * y + x * x * d.den) (x * y * d.den))
leads_or R6 (Psbe s d) (Resc false x y) valid = le_or ((x * d.den + d.num) * s.den) (s.num * y * d.den)
leads_or R6 (Psbe s d) (Resb false x y) valid = le_or ((x * d.den + d.num) * s.den) (s.num * y * d.den)
leads_or R7 (Resc hard x y) h valid = same_or h (Resb hard x y)
leads_or R8 All (Resb false x y) valid = inl tt
leads_or R8 All (Resc false x y) valid = inl tt
leads_or R8 All (Psbe s d) valid = inl tt
leads_or R9 g h valid = same_or h Null
leads_or R10 (Resb hard x y) (Resc false u v) valid =
    both_or (u ≤ x) (2 * y + u ≤ 2 * x + v) (le_or u x) (le_or (2 * y + u) (2 * x + v))
leads_or R11 (Resc hard x y) (Resc false u v) valid = times_or x y u v (omega (arith, valid.some, valid.fits))
leads_or _ _ _ valid = inr (λ leads. leads)

pub converts-or : (rule : RuleName) (g h : Guarantee) → IsValid g → IsValid h
    → Converts rule g h ⊎ (Converts rule g h → ⊥)
converts-or rule g h from to = elim (leads_or rule g h from) [
  | inl leads ↦ inl (record { from = from; to = to; leads = leads })
  | inr nothing ↦ inr (λ c. nothing c.leads)
]

-- ---- strongest conclusions

-- there is one, or there is none
abbrev HasStrongest : RuleName → Guarantee → Type 0
HasStrongest rule g = ((h : Guarantee) × IsStrongest rule g h) ⊎ ((h : Guarantee) → IsStrongest rule g h → ⊥)

itself : (g : Guarantee) → IsValid g → Leads R1 g g → IsStrongest R1 g g
itself g valid leads = record {
  concluded = record { from = valid; to = valid; leads = leads };
  best = λ k c. inr c;
}

lesser : (x y : ℕ) → 2 * y ≤ 20000 + x → IsReservation x y → (hard : Bool) (k : Guarantee)
    → Converts R3 (Resb hard x y) k
    → (k ≡ Resc false x (2 * y - x)) ⊎ Converts R1 (Resc false x (2 * y - x)) k
lesser x y small size hard (Resc false u v) c =
    let fits = size.fits in
    let wide = c.leads.1 in
    inr (record {
      from = record { some = size.some; fits = omega arith; size = omega arith };
      to = c.to;
      leads = (c.leads.0, omega arith);
    })
lesser x y small size hard _ c = absurd c.leads

sliding : (hard : Bool) (x y : ℕ) → 2 * y ≤ 20000 + x → IsReservation x y
    → IsStrongest R3 (Resb hard x y) (Resc false x (2 * y - x))
sliding hard x y small size =
    let fits = size.fits in
    record {
      concluded = record {
        from = size;
        to = record { some = size.some; fits = omega arith; size = omega arith };
        leads = (omega arith, omega arith);
      };
      best = lesser x y small size hard;
    }

too_wide : (hard : Bool) (x y : ℕ) (h : Guarantee) → (2 * y ≤ 20000 + x → ⊥) → IsReservation x y
    → Converts R3 (Resb hard x y) h → ⊥
too_wide hard x y (Resc false u v) wide size c =
    let long = c.leads.1 in
    let most = c.to.size in
    wide (omega arith)
too_wide hard x y _ wide size c = absurd c.leads

windows_or : (hard : Bool) (x y : ℕ) → IsReservation x y → HasStrongest R3 (Resb hard x y)
windows_or hard x y size = elim (le_or (2 * y) (20000 + x)) [
  | inl small ↦ inl (Resc false x (2 * y - x), sliding hard x y small size)
  | inr wide ↦ inr (λ h best. too_wide hard x y h wide size best.concluded)
]

share_of : (x y m : ℕ) → IsReservation x y
    → (s : Frac) × (d : Frac) × IsQuotient s x y × IsQuotient d (m * (y - x)) y
share_of x y m size =
    let some : 1 ≤ y = omega (arith, size.some, size.fits) in
    let rate = quotient_of x y some in
    let error = quotient_of (m * (y - x)) y some in
    (rate.0, error.0, rate.1, error.1)

blocks_or : (hard : Bool) (x y : ℕ) → IsReservation x y → HasStrongest R4 (Resb hard x y)
blocks_or hard x y size =
    let share = share_of x y (2 * x) size in
    inl (
      Psbe share.0 share.1,
      blocks-strongest refl refl size (record {
        rate = share.0;
        error = share.1;
        is = refl;
        rate_is = share.2;
        error_is = share.3;
      }),
    )

shares_or : (hard : Bool) (x y : ℕ) → IsReservation x y → HasStrongest R5 (Resc hard x y)
shares_or hard x y size =
    let share = share_of x y x size in
    inl (
      Psbe share.0 share.1,
      windows-strongest refl refl size (record {
        rate = share.0;
        error = share.1;
        is = refl;
        rate_is = share.2;
        error_is = share.3;
      }),
    )

one_or : (hard : Bool) (x y : ℕ) → IsReservation x y → HasStrongest R10 (Resb hard x y)
one_or hard x y size = elim (cases_lt 1 x) [
  | inl many ↦ inr (λ h best. blocks-lack hard x y h (λ one. absurd (omega arith)) best)
  | inr few ↦ elim (cases_lt 10000 y) [
    | inl long ↦ inr (λ h best. blocks-lack hard x y h (λ one. long) best)
    | inr short ↦
        let is : x ≡ 1 = (let some = size.some in omega arith) in
        let size1 : IsReservation 1 y = subst (λ n. IsReservation n y) is size in
        inl (
          Resc false 1 (2 * y - 1),
          subst (λ n. IsStrongest R10 (Resb hard n y) (Resc false 1 (2 * y - 1))) (sym is)
              (one-strongest hard y size1 short),
        )
  ]
]

once_or : (hard : Bool) (x y : ℕ) → IsReservation x y → HasStrongest R11 (Resc hard x y)
once_or hard x y size = elim (cases_lt 20000 (2 * y)) [
  | inl far ↦ inl (Resc false x y, once-strongest hard x y size far)
  | inr short ↦ inr (λ h best. windows-lack hard x y h short best)
]

-- the one conclusion
only : (rule : RuleName) (g h : Guarantee) → IsSingle rule → IsValid g → IsValid h → Leads rule g h
    → HasStrongest rule g
only rule g h single from to leads =
    inl (h, single-strongest rule g h single (record { from = from; to = to; leads = leads }))

strongest_or : (rule : RuleName) (g : Guarantee) → IsValid g → HasStrongest rule g
strongest_or R1 (Resc false x y) valid =
    inl (Resc false x y, itself (Resc false x y) valid (omega arith, omega arith))
strongest_or R1 (Resb false x y) valid =
    inl (Resb false x y, itself (Resb false x y) valid (omega arith, refl))
strongest_or R1 (Psbe s d) valid = inl (Psbe s d, itself (Psbe s d) valid (omega arith, omega arith))
strongest_or R2 (Resb true x y) valid = only R2 (Resb true x y) (Resb false x y) tt valid valid refl
strongest_or R2 (Resc true x y) valid = only R2 (Resc true x y) (Resc false x y) tt valid valid refl
strongest_or R3 (Resb hard x y) valid = windows_or hard x y valid
strongest_or R4 (Resb hard x y) valid = blocks_or hard x y valid
strongest_or R5 (Resc hard x y) valid = shares_or hard x y valid
strongest_or R6 g valid = inr (λ h best. no-share g h best)
strongest_or R7 (Resc hard x y) valid = only R7 (Resc hard x y) (Resb hard x y) tt valid valid refl
strongest_or R8 g valid = inr (λ h best. no-whole g h best)
strongest_or R9 g valid = only R9 g Null tt valid tt refl
strongest_or R10 (Resb hard x y) valid = one_or hard x y valid
strongest_or R11 (Resc hard x y) valid = once_or hard x y valid
strongest_or _ _ valid = inr (λ h best. best.concluded.leads)

-- ---- answers

-- what is answered is concluded
pub answer-sound : (rule : RuleName) (g wanted h : Guarantee) → IsValid g → IsValid wanted
    → Answers rule g wanted (Some h) → Converts rule g h
answer-sound rule g wanted h from to answers = elim (converts-or rule g wanted from to) [
  | inl c ↦
      let same : Some h ≡ Some wanted = answers.meets c in
      let one : wanted ≡ h = cc in
      subst (λ v. Converts rule g v) one c
  | inr not ↦ elim (strongest_or rule g from) [
    | inl best ↦
        let same : Some h ≡ Some best.0 = answers.leads not best.0 best.1 in
        let one : best.0 ≡ h = cc in
        subst (λ v. Converts rule g v) one best.1.concluded
    | inr nothing ↦
        let same : Some h ≡ None = answers.lacks not nothing in
        (let none : ⊥ = cc in absurd none)
  ]
]

-- where there is a strongest conclusion, it is answered, or else what is wanted is concluded
pub answer-strongest : (rule : RuleName) (g wanted h : Guarantee) (answer : Option Guarantee) → IsValid g
    → IsValid wanted → Answers rule g wanted answer → IsStrongest rule g h
    → Converts rule g wanted ⊎ (answer ≡ Some h)
answer-strongest rule g wanted h answer from to answers best = elim (converts-or rule g wanted from to) [
  | inl c ↦ inl c
  | inr not ↦ inr (answers.leads not h best)
]

pub answer-concluded : (rule : RuleName) (g wanted : Guarantee) (answer : Option Guarantee) → IsValid g
    → IsValid wanted → Answers rule g wanted answer → IfSome answer (λ h. Converts rule g h)
answer-concluded rule g wanted (Some h) from to answers = answer-sound rule g wanted h from to answers
answer-concluded rule g wanted None from to answers = tt

pub answer-one : (rule : RuleName) (g wanted : Guarantee) (a b : Option Guarantee) → IsValid g
    → IsValid wanted
    → Answers rule g wanted a → Answers rule g wanted b → a ≡ b
answer-one rule g wanted a b from to one two = elim (converts-or rule g wanted from to) [
  | inl c ↦ one.meets c ∙ sym (two.meets c)
  | inr not ↦ elim (strongest_or rule g from) [
    | inl best ↦ one.leads not best.0 best.1 ∙ sym (two.leads not best.0 best.1)
    | inr nothing ↦ one.lacks not nothing ∙ sym (two.lacks not nothing)
  ]
]

-- The table of conversions, with a row for each way in which a rule leads.
use Rattle.std.proofs.Common.{◌≡◌, ℕ, ◌+◌, ◌*◌, ◌-◌, ◌≤◌, Bool, true, false, refl, sym, subst, arith}
use Rattle.hls_frac.specs.declared.Frac.{Frac}
use Rattle.hls_frac.specs.Frac.{IsAtMost, IsQuotient}
use Rattle.hls_guarantee.specs.declared.Guarantee.{Guarantee}
use Rattle.hls_guarantee.specs.declared.Guarantee.TheVariants.{All, Null, Resb, Resc, Psbe}
use Rattle.hls_guarantee.specs.declared.rule.RuleName.{RuleName}
use Rattle.hls_guarantee.specs.declared.rule.RuleName.TheVariants.{R1, R2, R3, R4, R5, R6, R7, R8, R9, R10, R11}
use Rattle.hls_guarantee.specs.Limits.{IsValid}
use Rattle.hls_guarantee.specs.Conversions.{StartsNoLater, IsError, Covers, Leads, Converts}
use Rattle.hls_guarantee.proofs.Readings.{error-quotient, quotient-error}

pub data Way : RuleName → Guarantee → Guarantee → Type 0 where
  r1c : {x y e f : ℕ} → e ≤ x → y ≤ f → Way R1 (Resc false x y) (Resc false e f)
  r1b : {x y e : ℕ} → e ≤ x → Way R1 (Resb false x y) (Resb false e y)
  r1p : {s d t e : Frac} → IsAtMost t s → StartsNoLater s d t e → Way R1 (Psbe s d) (Psbe t e)
  r2b : {x y : ℕ} → Way R2 (Resb true x y) (Resb false x y)
  r2c : {x y : ℕ} → Way R2 (Resc true x y) (Resc false x y)
  r3 : {hard : Bool} {x y e f : ℕ} → e ≤ x → 2 * y ≤ x + f → Way R3 (Resb hard x y) (Resc false e f)
  r4 : {hard : Bool} {x y : ℕ} {s d : Frac} → IsQuotient s x y → IsQuotient d (x * (2 * (y - x))) y
      → Way R4 (Resb hard x y) (Psbe s d)
  r5 : {hard : Bool} {x y : ℕ} {s d : Frac} → IsQuotient s x y → IsQuotient d (x * (y - x)) y
      → Way R5 (Resc hard x y) (Psbe s d)
  r6c : {s d : Frac} {e f : ℕ} → Covers s d e f → Way R6 (Psbe s d) (Resc false e f)
  r6b : {s d : Frac} {e f : ℕ} → Covers s d e f → Way R6 (Psbe s d) (Resb false e f)
  r7 : {hard : Bool} {x y : ℕ} → Way R7 (Resc hard x y) (Resb hard x y)
  r8c : {e f : ℕ} → Way R8 All (Resc false e f)
  r8b : {e f : ℕ} → Way R8 All (Resb false e f)
  r8p : {s d : Frac} → Way R8 All (Psbe s d)
  r9 : {g : Guarantee} → Way R9 g Null
  r10 : {hard : Bool} {x y e f : ℕ} → e ≤ x → 2 * y + e ≤ 2 * x + f → Way R10 (Resb hard x y) (Resc false e f)
  r11 : {hard : Bool} {x y e f : ℕ} (k : ℕ) → 1 ≤ k → e ≤ k * x → k * y ≤ f
      → Way R11 (Resc hard x y) (Resc false e f)

rest-of : (x y : ℕ) → x ≤ y → y ≡ (y - x) + x
rest-of x y le = omega arith

-- the error by blocks, whose 2 stands elsewhere
blocks-error : (d : Frac) (x y : ℕ) → x ≤ y → IsError d (2 * x) x y → IsQuotient d (x * (2 * (y - x))) y
blocks-error d x y fits error =
    let quotient = error-quotient d (2 * x) x y (y - x) (rest-of x y fits) error in
    omega (arith, quotient)

error-blocks : (d : Frac) (x y : ℕ) → x ≤ y → IsQuotient d (x * (2 * (y - x))) y → IsError d (2 * x) x y
error-blocks d x y fits quotient =
    quotient-error d (2 * x) x y (y - x) (rest-of x y fits) (omega (arith, quotient))

way-of : (rule : RuleName) (g h : Guarantee) → IsValid g → Leads rule g h → Way rule g h
way-of R1 (Resc false x y) (Resc false e f) valid leads = r1c leads.0 leads.1
way-of R1 (Resb false x y) (Resb false e f) valid leads =
    subst (λ v. Way R1 (Resb false x y) (Resb false e v)) (sym leads.1) (r1b leads.0)
way-of R1 (Psbe s d) (Psbe t e) valid leads = r1p leads.0 leads.1
way-of R2 (Resb true x y) h valid leads = subst (λ v. Way R2 (Resb true x y) v) (sym leads) r2b
way-of R2 (Resc true x y) h valid leads = subst (λ v. Way R2 (Resc true x y) v) (sym leads) r2c
way-of R3 (Resb hard x y) (Resc false e f) valid leads = r3 leads.0 leads.1
way-of R4 (Resb hard x y) (Psbe s d) valid leads = r4 leads.0 (blocks-error d x y valid.fits leads.1)
way-of R5 (Resc hard x y) (Psbe s d) valid leads =
    r5 leads.0 (error-quotient d x x y (y - x) (rest-of x y valid.fits) leads.1)
way-of R6 (Psbe s d) (Resc false e f) valid leads = r6c leads
way-of R6 (Psbe s d) (Resb false e f) valid leads = r6b leads
way-of R7 (Resc hard x y) h valid leads = subst (λ v. Way R7 (Resc hard x y) v) (sym leads) r7
way-of R8 All (Resb false e f) valid leads = r8b
way-of R8 All (Resc false e f) valid leads = r8c
way-of R8 All (Psbe s d) valid leads = r8p
way-of R9 g h valid leads = subst (λ v. Way R9 g v) (sym leads) r9
way-of R10 (Resb hard x y) (Resc false e f) valid leads = r10 leads.0 leads.1
way-of R11 (Resc hard x y) (Resc false e f) valid leads = r11 leads.times leads.some leads.enough leads.within
way-of _ _ _ valid leads = absurd leads

pub converts-way : (rule : RuleName) (g h : Guarantee) → Converts rule g h → Way rule g h
converts-way rule g h c = way-of rule g h c.from c.leads

way-leads : {rule : RuleName} {g h : Guarantee} → IsValid g → Way rule g h → Leads rule g h
way-leads valid (r1c a b) = (a, b)
way-leads valid (r1b a) = (a, refl)
way-leads valid (r1p a b) = (a, b)
way-leads valid r2b = refl
way-leads valid r2c = refl
way-leads valid (r3 a b) = (a, b)
way-leads valid (r4 {x = x} {y = y} {d = d} a b) = (a, error-blocks d x y valid.fits b)
way-leads valid (r5 {x = x} {y = y} {d = d} a b) =
    (a, quotient-error d x x y (y - x) (rest-of x y valid.fits) b)
way-leads valid (r6c a) = a
way-leads valid (r6b a) = a
way-leads valid r7 = refl
way-leads valid r8c = tt
way-leads valid r8b = tt
way-leads valid r8p = tt
way-leads valid r9 = refl
way-leads valid (r10 a b) = (a, b)
way-leads valid (r11 k some a b) = record { times = k; some = some; enough = a; within = b }

pub way-converts : {rule : RuleName} {g h : Guarantee} → IsValid g → IsValid h → Way rule g h
    → Converts rule g h
way-converts from to way = record { from = from; to = to; leads = way-leads from way }

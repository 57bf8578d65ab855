-- Where the rules for longer windows have a strongest conclusion.
use Rattle.std.proofs.Common.{◌≡◌, ℕ, ◌*◌, ◌-◌, ◌<◌, ◌≤◌, Bool, false, inl, inr, sym, subst, arith}
use Rattle.std.proofs.lemmas.Bool.{cases_lt}
use Rattle.hls_guarantee.specs.declared.Guarantee.{Guarantee}
use Rattle.hls_guarantee.specs.declared.Guarantee.TheVariants.{Resb, Resc}
use Rattle.hls_guarantee.specs.declared.rule.RuleName.TheVariants.{R10, R11}
use Rattle.hls_guarantee.specs.Limits.{IsReservation}
use Rattle.hls_derive.specs.Answers.{IsStrongest}
use Rattle.hls_rules.proofs.Answering.{strongest-same}
use Rattle.hls_rules.proofs.LongerOnes.{one-strongest, blocks-lack, once-strongest, windows-lack}

pub blocks-have : (hard : Bool) (x y : ℕ) (h : Guarantee) → IsReservation x y
    → IsStrongest R10 (Resb hard x y) h → (x ≡ 1) × (y ≤ 10000) × (h ≡ Resc false 1 (2 * y - 1))
blocks-have hard x y h size best = elim (cases_lt 1 x) [
  | inl many ↦ absurd (blocks-lack hard x y h (λ one. absurd (omega arith)) best)
  | inr few ↦ elim (cases_lt 10000 y) [
    | inl long ↦ absurd (blocks-lack hard x y h (λ one. long) best)
    | inr short ↦
        let is : x ≡ 1 = (let some = size.some in omega arith) in
        let size1 : IsReservation 1 y = subst (λ n. IsReservation n y) is size in
        let best1 = subst (λ n. IsStrongest R10 (Resb hard n y) h) is best in
        (is, short, strongest-same R10 (Resb hard 1 y) h _ best1 (one-strongest hard y size1 short))
  ]
]

pub have-blocks : (hard : Bool) (x y : ℕ) (h : Guarantee) → IsReservation x y
    → (x ≡ 1) × (y ≤ 10000) × (h ≡ Resc false 1 (2 * y - 1)) → IsStrongest R10 (Resb hard x y) h
have-blocks hard x y h size is =
    let size1 : IsReservation 1 y = subst (λ n. IsReservation n y) is.0 size in
    subst (λ n. IsStrongest R10 (Resb hard n y) h) (sym is.0)
    (subst (λ v. IsStrongest R10 (Resb hard 1 y) v) (sym is.2) (one-strongest hard y size1 is.1))

pub windows-have : (hard : Bool) (x y : ℕ) (h : Guarantee) → IsReservation x y
    → IsStrongest R11 (Resc hard x y) h → (20000 < 2 * y) × (h ≡ Resc false x y)
windows-have hard x y h size best = elim (cases_lt 20000 (2 * y)) [
  | inl far ↦ (far, strongest-same R11 (Resc hard x y) h _ best (once-strongest hard x y size far))
  | inr short ↦ absurd (windows-lack hard x y h short best)
]

pub have-windows : (hard : Bool) (x y : ℕ) (h : Guarantee) → IsReservation x y
    → (20000 < 2 * y) × (h ≡ Resc false x y) → IsStrongest R11 (Resc hard x y) h
have-windows hard x y h size is =
    subst (λ v. IsStrongest R11 (Resc hard x y) v) (sym is.1) (once-strongest hard x y size is.0)

-- Which longer windows are the strongest conclusions.
use Rattle.std.proofs.Common.{◌≡◌, ℕ, ◌+◌, ◌*◌, ◌-◌, ◌<◌, ◌≤◌, Bool, false, inl, inr, ap, subst, sym, arith}
use Rattle.std.specs.Prelude.{Option, Some, None, IfSome}
use Rattle.std.proofs.Math.Nat.{mul-le-mul_right}
use Rattle.std.proofs.lemmas.Bool.{cases_lt}
use Rattle.hls_guarantee.specs.declared.Guarantee.{Guarantee}
use Rattle.hls_guarantee.specs.declared.Guarantee.TheVariants.{Resb, Resc}
use Rattle.hls_guarantee.specs.declared.rule.RuleName.{RuleName}
use Rattle.hls_guarantee.specs.declared.rule.RuleName.TheVariants.{R1, R10, R11}
use Rattle.hls_guarantee.specs.Limits.{IsReservation, IsValid}
use Rattle.hls_guarantee.specs.Conversions.{HasTimes, Converts}
use Rattle.hls_derive.specs.Answers.{IsStrongest}

-- soft windows of which these are the best have no fewer ticks, and are no longer
pub record IsLeast (x y x' y' : ℕ) : Type 0 where
  pub less : x' ≤ x
  pub longer : y ≤ y'

pub best-least : (rule : RuleName) (g : Guarantee) (u v x y : ℕ) → IsStrongest rule g (Resc false u v)
    → Converts rule g (Resc false x y) → IsLeast u v x y
best-least rule g u v x y strongest c = elim (strongest.best (Resc false x y) c) [
  | inl same ↦
      let first : x ≡ u = cc in
      let second : y ≡ v = cc in
      record { less = omega arith; longer = omega arith }
  | inr gives ↦ record { less = gives.leads.0; longer = gives.leads.1 }
]

-- ---- blocks

one_best : (hard : Bool) (y : ℕ) (k : Guarantee) → IsReservation 1 y → y ≤ 10000
    → Converts R10 (Resb hard 1 y) k → Converts R1 (Resc false 1 (2 * y - 1)) k
one_best hard y (Resc false u v) size short c =
    let fits = size.fits in
    let wide = c.leads.1 in
    let some = c.to.some in
    record {
      from = record { some = omega arith; fits = omega arith; size = omega arith };
      to = c.to;
      leads = (c.leads.0, omega arith);
    }
one_best hard y _ size short c = absurd c.leads

pub one-strongest : (hard : Bool) (y : ℕ) → IsReservation 1 y → y ≤ 10000
    → IsStrongest R10 (Resb hard 1 y) (Resc false 1 (2 * y - 1))
one-strongest hard y size short =
    let fits = size.fits in
    record {
      concluded = record {
        from = size;
        to = record { some = omega arith; fits = omega arith; size = omega arith };
        leads = (omega arith, omega arith);
      };
      best = λ k c. inr (one_best hard y k size short c);
    }

to_windows : (hard : Bool) (x y u v : ℕ) → IsReservation x y → IsReservation u v → u ≤ x → 2 * y + u ≤ 2 * x + v
    → Converts R10 (Resb hard x y) (Resc false u v)
to_windows hard x y u v from to less wide = record { from = from; to = to; leads = (less, wide) }

-- one tick needs shorter windows, and two need longer ones
pub blocks-lack : (hard : Bool) (x y : ℕ) (h : Guarantee) → (x ≡ 1 → 10000 < y)
    → IsStrongest R10 (Resb hard x y) h → ⊥
blocks-lack hard x y (Resc false u v) long strongest =
    let c = strongest.concluded in
    let from = c.from in
    let to = c.to in
    let some = to.some in
    let most = to.size in
    let fits = from.fits in
    let less = c.leads.0 in
    let wide = c.leads.1 in
    elim (cases_lt x 2) [
      | inl one ↦
          let is : x ≡ 1 = (let has = from.some in omega arith) in
          let far = long is in
          absurd (omega arith)
      | inr more ↦ elim (cases_lt u 2) [
        | inl single ↦
            let two = to_windows hard x y 2 (2 * (y - x) + 2) from
            (record { some = omega arith; fits = omega arith; size = omega arith }) (omega arith) (omega arith) in
            let least = best-least R10 (Resb hard x y) u v 2 (2 * (y - x) + 2) strongest two in
            absurd (omega (arith, least.less))
        | inr many ↦
            let one = to_windows hard x y 1 (2 * (y - x) + 1) from
            (record { some = omega arith; fits = omega arith; size = omega arith }) (omega arith) (omega arith) in
            let least = best-least R10 (Resb hard x y) u v 1 (2 * (y - x) + 1) strongest one in
            absurd (omega (arith, least.longer))
      ]
    ]
blocks-lack hard x y _ long strongest = absurd strongest.concluded.leads

-- ---- windows

-- so few ticks are one period
once : (x y u v : ℕ) → v < 2 * y → HasTimes x y u v → IsLeast x y u v
once x y u v short has = elim (cases_lt has.times 2) [
  | inl few ↦
      let is : has.times ≡ 1 = (let some = has.some in omega arith) in
      let first : has.times * x ≡ 1 * x = ap (λ n. n * x) is in
      let second : has.times * y ≡ 1 * y = ap (λ n. n * y) is in
      record {
        less = omega (arith, first, has.enough);
        longer = omega (arith, second, has.within);
      }
  | inr many ↦
      let long : 2 * y ≤ has.times * y = mul-le-mul_right y many in
      absurd (omega (arith, long, has.within, short))
]

once_best : (hard : Bool) (x y : ℕ) (k : Guarantee) → IsReservation x y → 20000 < 2 * y
    → Converts R11 (Resc hard x y) k → Converts R1 (Resc false x y) k
once_best hard x y (Resc false u v) size far c =
    let least = once x y u v (omega (arith, c.to.size, far)) c.leads in
    record { from = size; to = c.to; leads = (least.less, least.longer) }
once_best hard x y _ size far c = absurd c.leads

times_of : (hard : Bool) (x y k : ℕ) → IsReservation x y → 1 ≤ k → k * y ≤ 20000
    → IsReservation (k * x) (k * y) → Converts R11 (Resc hard x y) (Resc false (k * x) (k * y))
times_of hard x y k size some most to = record {
  from = size;
  to = to;
  leads = record { times = k; some = some; enough = omega arith; within = omega arith };
}

pub once-strongest : (hard : Bool) (x y : ℕ) → IsReservation x y → 20000 < 2 * y
    → IsStrongest R11 (Resc hard x y) (Resc false x y)
once-strongest hard x y size far = record {
  concluded = record {
    from = size;
    to = size;
    leads = record { times = 1; some = omega arith; enough = omega arith; within = omega arith };
  };
  best = λ k c. inr (once_best hard x y k size far c);
}

-- one period is no longer, and two have more ticks
pub windows-lack : (hard : Bool) (x y : ℕ) (h : Guarantee) → 2 * y ≤ 20000
    → IsStrongest R11 (Resc hard x y) h → ⊥
windows-lack hard x y (Resc false u v) short strongest =
    let c = strongest.concluded in
    let from = c.from in
    let some = from.some in
    let fits = from.fits in
    let one = best-least R11 (Resc hard x y) u v (1 * x) (1 * y) strongest
    (times_of hard x y 1 from (omega arith) (omega arith)
    (record { some = omega arith; fits = omega arith; size = omega arith })) in
    let two = best-least R11 (Resc hard x y) u v (2 * x) (2 * y) strongest
    (times_of hard x y 2 from (omega arith) (omega arith)
    (record { some = omega arith; fits = omega arith; size = omega arith })) in
    let least = once x y u v (omega (arith, one.longer, some, fits)) c.leads in
    absurd (omega (arith, least.less, two.less, some))
windows-lack hard x y _ short strongest = absurd strongest.concluded.leads

-- ---- what is found

pub blocks-found : (rule : RuleName) (g : Guarantee) (hard : Bool) (x y : ℕ) (found : Option Guarantee)
    → rule ≡ R10 → g ≡ Resb hard x y → IsValid g
    → IfSome found (λ h. (h ≡ Resc false 1 (2 * y - 1)) × (x ≡ 1) × (y ≤ 10000))
    → IfSome found (λ h. IsStrongest rule g h)
blocks-found rule g hard x y (Some h) first second valid is =
    let size : IsReservation x y = subst IsValid second valid in
    let size1 : IsReservation 1 y = subst (λ n. IsReservation n y) is.1 size in
    let at = one-strongest hard y size1 is.2 in
    subst (λ v. IsStrongest v g h) (sym first) (subst (λ v. IsStrongest R10 v h) (sym second)
    (subst (λ n. IsStrongest R10 (Resb hard n y) h) (sym is.1)
    (subst (λ v. IsStrongest R10 (Resb hard 1 y) v) (sym is.0) at)))
blocks-found rule g hard x y None first second valid is = tt

pub blocks-none : (rule : RuleName) (g h : Guarantee) (hard : Bool) (x y : ℕ) → rule ≡ R10 → g ≡ Resb hard x y
    → (x ≡ 1 → 10000 < y) → IsStrongest rule g h → ⊥
blocks-none rule g h hard x y first second long strongest =
    blocks-lack hard x y h long (subst (λ v. IsStrongest R10 v h) second
    (subst (λ v. IsStrongest v g h) first strongest))

pub windows-found : (rule : RuleName) (g : Guarantee) (hard : Bool) (x y : ℕ) (found : Option Guarantee)
    → rule ≡ R11 → g ≡ Resc hard x y → IsValid g
    → IfSome found (λ h. (h ≡ Resc false x y) × (20000 < 2 * y)) → IfSome found (λ h. IsStrongest rule g h)
windows-found rule g hard x y (Some h) first second valid is =
    let size : IsReservation x y = subst IsValid second valid in
    let at = once-strongest hard x y size is.1 in
    subst (λ v. IsStrongest v g h) (sym first) (subst (λ v. IsStrongest R11 v h) (sym second)
    (subst (λ v. IsStrongest R11 (Resc hard x y) v) (sym is.0) at))
windows-found rule g hard x y None first second valid is = tt

pub windows-none : (rule : RuleName) (g h : Guarantee) (hard : Bool) (x y : ℕ) → rule ≡ R11 → g ≡ Resc hard x y
    → 2 * y ≤ 20000 → IsStrongest rule g h → ⊥
windows-none rule g h hard x y first second short strongest =
    windows-lack hard x y h short (subst (λ v. IsStrongest R11 v h) second
    (subst (λ v. IsStrongest v g h) first strongest))

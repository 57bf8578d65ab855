-- The candidates as numbers that are computed.
use Rattle.std.proofs.Common.{◌≡◌, ℕ, ◌*◌, ◌-◌, ◌/◌, ◌^◌, ◌≤◌, ◌<◌, ◌↔◌, ◌∙◌, sym, subst, ap, arith, mul-pos}
use Rattle.std.specs.Prelude.{Option, Some, None}
use Rattle.std.proofs.Math.Nat.{div-le_of_le-mul, le-div_iff_mul-le, mul-le-mul_right}
use Rattle.hls_frac.specs.declared.Frac.{Frac}
use Rattle.hls_guarantee.specs.declared.Guarantee.{Guarantee}
use Rattle.hls_guarantee.specs.declared.Guarantee.TheVariants.{Psbe}
use Rattle.hls_guarantee.specs.Conversions.{Covers}
use Rattle.hls_guarantee.specs.Limits.{IsShare, IsValid}
use Rattle.hls_offer_laws.specs.Offered.{IsShareOf}
use Rattle.hls_offer_laws.specs.Candidates.{IsLeast, IsMost, Assures, SharesTicks, SharesWait}
use Rattle.hls_offer_laws.proofs.Shares.{share-valid, share-one}
use Rattle.hls_offer_laws.proofs.Extremes.{most_of, meets-most, most-ticks, wait_of, least-wait}

pub most-one : {P : ℕ → Type 0} {a b : ℕ} → IsMost P a → IsMost P b → a ≡ b
most-one {a = a} {b = b} first second =
    let le : a ≤ b = second.most a first.meets in
    let ge : b ≤ a = first.most b second.meets in
    omega arith

pub least-one : {P : ℕ → Type 0} {a b : ℕ} → IsLeast P a → IsLeast P b → a ≡ b
least-one {a = a} {b = b} first second =
    let le : a ≤ b = first.least b second.meets in
    let ge : b ≤ a = second.least a first.meets in
    omega arith

-- a number that is the only one with a fact
some-only : {P : ℕ → Type 0} (n : ℕ) → P n → ((m : ℕ) → P m → n ≡ m) → (x : ℕ) → (Some n ≡ Some x) ↔ P x
some-only {P} n held only x =
    (λ is. (let e : n ≡ x = cc in subst P e held), λ other. ap (λ (v : ℕ). Some v) (only x other))

none-only : {P : ℕ → Type 0} → ((m : ℕ) → P m → ⊥) → (x : ℕ) → (None ≡ Some x) ↔ P x
none-only none x = (λ is. absurd (let no : ⊥ = cc in no), λ held. absurd (none x held))

-- the most that are computed, if one or more
pub most-if-some : {P : ℕ → Type 0} (found : Option ℕ) (n x : ℕ)
    → ((v : ℕ) → (found ≡ Some v) ↔ ((1 ≤ v) × (v ≡ n))) → (1 ≤ n → IsMost P n) → ((m : ℕ) → P m → m ≤ n)
    → (found ≡ Some x) ↔ ((1 ≤ x) × IsMost P x)
most-if-some {P} found n x exact most below = (
  λ is.
      let both = (exact x).0 is in
      let same : x ≡ n = both.1 in
      (both.0, subst (λ v. IsMost P v) (sym same) (most (omega (arith, both.0)))),
  λ its.
      let le : x ≤ n = below x its.1.meets in
      (exact x).1 (its.0, most-one its.1 (most (omega (arith, its.0)))),
)

-- ---- the most ticks

most-small : (a b p q y : ℕ) → a ≤ b → most_of a b p q y ≤ y
most-small a b p q y le =
    let over : a * y * q ≤ b * y * q = omega (arith, mul-le-mul_right (y * q) le) in
    div-le_of_le-mul (b * q) (omega (arith, over))

pub most-fits : (s d : Frac) (y : ℕ) → IsShare (10 ^ 13) (10 ^ 8) s d → most_of s.num s.den d.num d.den y ≤ y
most-fits s d y share = most-small s.num s.den d.num d.den y share.fits

owed-less : (n b a d : ℕ) → 1 ≤ d → 1 ≤ n → n ≤ (a - b) / d → b ≤ a
owed-less n b a d pos some le =
    let under : n * d ≤ a - b = (le-div_iff_mul-le pos).0 le in
    let more : 1 ≤ n * d = mul-pos some pos in
    omega arith

pub most-some : (s d : Frac) (y most : ℕ) → most ≡ most_of s.num s.den d.num d.den y → (most ≡ 0 → ⊥) → (x : ℕ)
    → (Some most ≡ Some x) ↔ ((1 ≤ x) × IsMost (λ ticks. Covers s d ticks y) x)
most-some s d y most e some x =
    let pos : 1 ≤ most = omega arith in
    let under : d.num * s.den ≤ s.num * y * d.den =
    owed-less most (d.num * s.den) (s.num * y * d.den) (s.den * d.den) (mul-pos s.positive d.positive) pos
    (omega arith) in
    let its : IsMost (λ ticks. Covers s d ticks y) most =
    subst (λ v. IsMost (λ ticks. Covers s d ticks y) v) (sym e) (most-ticks s d y under) in
    some-only {P = λ v. (1 ≤ v) × IsMost (λ ticks. Covers s d ticks y) v} most (pos, its)
    (λ m other. most-one its other.1) x

pub most-none : (s d : Frac) (y most : ℕ) → most ≡ most_of s.num s.den d.num d.den y → most ≡ 0 → (x : ℕ)
    → (None ≡ Some x) ↔ ((1 ≤ x) × IsMost (λ ticks. Covers s d ticks y) x)
most-none s d y most e none x =
    none-only {P = λ v. (1 ≤ v) × IsMost (λ ticks. Covers s d ticks y) v}
    (λ m other.
    let le : m ≤ most_of s.num s.den d.num d.den y =
    meets-most s.num s.den d.num d.den m y s.positive d.positive other.1.meets in
    let some : 1 ≤ m = other.0 in
    absurd (omega arith)) x

-- ---- the least wait

pub wait-some : (s d : Frac) (wait : ℕ) → 1 ≤ s.num → wait ≡ wait_of s.num s.den d.num d.den → wait ≤ 20000
    → (x : ℕ) → (Some wait ≡ Some x) ↔ (IsLeast (λ ticks. Covers s d 1 ticks) x × (x ≤ 20000))
wait-some s d wait some e fits x =
    let its : IsLeast (λ ticks. Covers s d 1 ticks) wait =
    subst (λ v. IsLeast (λ ticks. Covers s d 1 ticks) v) (sym e) (least-wait s d some) in
    some-only {P = λ v. IsLeast (λ ticks. Covers s d 1 ticks) v × (v ≤ 20000)} wait (its, fits)
    (λ m other. least-one its other.0) x

pub wait-none : (s d : Frac) (wait : ℕ) → 1 ≤ s.num → wait ≡ wait_of s.num s.den d.num d.den → 20000 < wait
    → (x : ℕ) → (None ≡ Some x) ↔ (IsLeast (λ ticks. Covers s d 1 ticks) x × (x ≤ 20000))
wait-none s d wait some e long x =
    none-only {P = λ v. IsLeast (λ ticks. Covers s d 1 ticks) v × (v ≤ 20000)}
    (λ m other.
    let same : wait_of s.num s.den d.num d.den ≡ m = least-one (least-wait s d some) other.0 in
    let fits : m ≤ 20000 = other.1 in
    absurd (omega arith)) x

-- ---- of a share that was found

pub share-wide : (lent share : Guarantee) (s d : Frac) → IsValid lent → IsShareOf lent share → share ≡ Psbe s d
    → IsShare (10 ^ 13) (10 ^ 8) s d
share-wide lent share s d valid is e = subst IsValid e (share-valid lent share valid is)

pub shares-ticks : (lent share : Guarantee) (s d : Frac) (x y : ℕ) → IsShareOf lent share → share ≡ Psbe s d
    → ((1 ≤ x) × IsMost (λ ticks. Covers s d ticks y) x) ↔ SharesTicks lent x y
shares-ticks lent share s d x y is e = (
  λ most. record {
    share = share;
    is = is;
    some = most.0;
    most = subst (λ v. IsMost (λ ticks. Assures v ticks y) x) (sym e) most.1;
  },
  λ its. (
    its.some,
    subst (λ v. IsMost (λ ticks. Assures v ticks y) x) (share-one lent its.share share its.is is ∙ e) its.most,
  ),
)

pub shares-wait : (lent share : Guarantee) (s d : Frac) (x : ℕ) → IsShareOf lent share → share ≡ Psbe s d
    → IsLeast (λ ticks. Covers s d 1 ticks) x ↔ SharesWait lent x
shares-wait lent share s d x is e = (
  λ least. record {
    share = share;
    is = is;
    least = subst (λ v. IsLeast (λ ticks. Assures v 1 ticks) x) (sym e) least;
  },
  λ its. subst (λ v. IsLeast (λ ticks. Assures v 1 ticks) x) (share-one lent its.share share its.is is ∙ e) its.least,
)

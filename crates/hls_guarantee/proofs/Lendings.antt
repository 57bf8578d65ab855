-- What follows from the table of steps at schedulers.
use Rattle.std.proofs.Common.{◌≡◌, ℕ, ◌+◌, ◌*◌, ◌≤◌, refl, sym, ◌∙◌, arith, ap, mul-le-mul_left, mul-pos}
use Rattle.std.proofs.Math.Nat.{le_of_mul-le-mul_right}
use Rattle.hls_frac.specs.declared.Frac.{Frac}
use Rattle.hls_frac.specs.Frac.{IsAtMost, IsQuotient}
use Rattle.hls_frac.proofs.Quotients.{quotient-same}
use Rattle.hls_chron.specs.declared.plain.Config.{Config}
use Rattle.hls_chron.specs.declared.plain.Config.TheVariants as configs
use Rattle.hls_chron.specs.declared.plain.Sharing.{Sharing}
use Rattle.hls_chron.specs.declared.plain.Terms.{Terms}
use Rattle.hls_chron.specs.declared.plain.Terms.TheVariants as terms
use Rattle.hls_chron.specs.Kinds.{by_shares}
use Rattle.hls_chron.specs.Ranges.{ConfigInRange}
use Rattle.hls_chron.proofs.ConfigLaws.{by_kind}
use Rattle.hls_guarantee.specs.declared.Guarantee.{Guarantee}
use Rattle.hls_guarantee.specs.declared.Guarantee.TheVariants.{All, Psbe}
use Rattle.hls_guarantee.specs.Conversions.{StartsNoLater}
use Rattle.hls_guarantee.specs.Steps.{IsFairShare, IsTurnShare, LendsByTerms}

-- two shares of the same weight
same_error : (d p q : Frac) (total weight others rest more left : ℕ) → 1 ≤ total → others ≡ more →
    rest ≡ left →
    IsQuotient p ((d.num + others * d.den) * weight + rest * d.den) (d.den * total) →
    IsQuotient q ((d.num + more * d.den) * weight + left * d.den) (d.den * total) → p ≡ q
same_error d p q total weight others rest more left some e f is_p is_q =
    let size : 1 ≤ d.den * total = mul-pos d.positive some in
    let seats = ap (λ (n : ℕ). n * d.den * weight) e in
    let weights = ap (λ (n : ℕ). n * d.den) f in
    let num : (d.num + others * d.den) * weight + rest * d.den ≡
    (d.num + more * d.den) * weight + left * d.den = omega (arith, seats, weights) in
    quotient-same p q _ _ _ _ size size is_p is_q (ap (λ (n : ℕ). n * (d.den * total)) num)

same_share : (sharing : Sharing) (weight : ℕ) (s d p e q f : Frac) → 1 ≤ sharing.total →
    IsFairShare sharing weight s d p e → IsFairShare sharing weight s d q f → (p ≡ q) × (e ≡ f)
same_share sharing weight s d p e q f some a b =
    let quantum : ℕ = sharing.quantum in
    let size : 1 ≤ s.den * sharing.total = mul-pos s.positive some in
    let others : a.others ≡ b.others = (let x = a.seats in let y = b.seats in omega arith) in
    let rest : a.rest ≡ b.rest = (let x = a.weights in let y = b.weights in omega arith) in (
      quotient-same p q _ _ _ _ size size a.rate b.rate refl,
      same_error d e f sharing.total weight (a.others * quantum) (a.rest * quantum) (b.others * quantum)
          (b.rest * quantum) some (ap (λ (n : ℕ). n * quantum) others) (ap (λ (n : ℕ). n * quantum) rest)
          a.error b.error,
    )

same_turn : (quantum : ℕ) (s d p e q f : Frac) → IsTurnShare quantum s d p e → IsTurnShare quantum s d q f
    → (p ≡ q) × (e ≡ f)
same_turn quantum s d p e q f a b =
    let rate_size : 1 ≤ s.den * 32 = mul-pos s.positive (omega arith) in
    let size : 1 ≤ d.den * 32 = mul-pos d.positive (omega arith) in (
      quotient-same p q _ _ _ _ rate_size rate_size a.rate b.rate refl,
      quotient-same e f _ _ _ _ size size a.error b.error refl,
    )

psbe-same : (s d t e : Frac) → s ≡ t → d ≡ e → Psbe s d ≡ Psbe t e
psbe-same s d t e first second = ap (λ (f : Frac). Psbe f d) first ∙ ap (λ (f : Frac). Psbe t f) second

-- on any terms such a scheduler lends one guarantee of another
abbrev LendsOne : Config → Type 0
LendsOne config = (its : Terms) (g h k : Guarantee) → ConfigInRange config → LendsByTerms config its g h
    → LendsByTerms config its g k → h ≡ k

processor_one : LendsOne configs.Cpu
processor_one terms.Cpu All h k range a b = a ∙ sym b
processor_one _ _ _ _ range a b = absurd a

priority_one : LendsOne configs.Fp
priority_one (terms.Prio priority) g h k range a b = a.1 ∙ sym b.1
priority_one _ _ _ _ range a b = absurd a

reserved_one : LendsOne configs.Edf
reserved_one (terms.Res hard x y) All h k range a b = a ∙ sym b
reserved_one _ _ _ _ range a b = absurd a

shared_one : (sharing : Sharing) → LendsOne (by_shares sharing)
shared_one sharing (terms.Weight weight) (Psbe s d) (Psbe p e) (Psbe q f) range a b =
    let same = same_share sharing weight s d p e q f range.0.0 a b in
    psbe-same p e q f same.0 same.1
shared_one sharing (terms.Weight weight) (Psbe s d) (Psbe p e) _ range a b = absurd b
shared_one sharing _ _ _ _ range a b = absurd a

turn_one : (quantum : ℕ) → LendsOne (configs.Rr quantum)
turn_one quantum terms.Turn (Psbe s d) (Psbe p e) (Psbe q f) range a b =
    let same = same_turn quantum s d p e q f a b in
    psbe-same p e q f same.0 same.1
turn_one quantum terms.Turn (Psbe s d) (Psbe p e) _ range a b = absurd b
turn_one quantum _ _ _ _ range a b = absurd a

framed_one : (frame : ℕ) → LendsOne (configs.Wheel frame)
framed_one frame (terms.Slots places) All h k range a b = a.1 ∙ sym b.1
framed_one frame _ _ _ _ range a b = absurd a

joined_one : (ports : ℕ) → LendsOne (configs.Join ports)
joined_one ports terms.Sole g h k range a b = a.1 ∙ sym b.1
joined_one ports _ _ _ _ range a b = absurd a

pub lends-one : (config : Config) (its : Terms) (g h k : Guarantee) → ConfigInRange config →
    LendsByTerms config its g h → LendsByTerms config its g k → h ≡ k
lends-one = by_kind LendsOne processor_one priority_one reserved_one shared_one turn_one framed_one joined_one

-- a fair share is a lower one
pub fair-at_most : (sharing : Sharing) (weight : ℕ) (s d p e : Frac) → 1 ≤ weight →
    IsFairShare sharing weight s d p e → IsAtMost p s
fair-at_most sharing weight s d p e some a =
    let sum = a.weights in
    let pos : 1 ≤ sharing.total = omega arith in
    let fits : weight ≤ sharing.total = omega arith in
    let rate : p.num * (s.den * sharing.total) ≡ s.num * weight * p.den = a.rate in
    let less = mul-le-mul_left (s.num * p.den) fits in
    le_of_mul-le-mul_right {k = sharing.total} (omega (arith, rate, less)) pos

later_by : (dn dd sn sd pn pd en ed total weight others rest : ℕ) → 1 ≤ total →
    pn * (sd * total) ≡ sn * weight * pd →
    en * (dd * total) ≡ ((dn + others * dd) * weight + rest * dd) * ed →
    dn * pn * (ed * sd) ≤ en * sn * (dd * pd)
later_by dn dd sn sd pn pd en ed total weight others rest pos rate error =
    let first = ap (λ (n : ℕ). n * (dn * ed)) rate in
    let second = ap (λ (n : ℕ). n * (sn * pd)) error in
    le_of_mul-le-mul_right {k = total} (omega (arith, first, second)) pos

pub fair-later : (sharing : Sharing) (weight : ℕ) (s d p e : Frac) → 1 ≤ weight →
    IsFairShare sharing weight s d p e → StartsNoLater s d p e
fair-later sharing weight s d p e some a =
    let sum = a.weights in
    let pos : 1 ≤ sharing.total = omega arith in
    later_by d.num d.den s.num s.den p.num p.den e.num e.den sharing.total weight (a.others * sharing.quantum)
    (a.rest * sharing.quantum) pos a.rate a.error

-- a 32nd part is a lower one
pub turn-at_most : (quantum : ℕ) (s d p e : Frac) → IsTurnShare quantum s d p e → IsAtMost p s
turn-at_most quantum s d p e a =
    let rate : p.num * (s.den * 32) ≡ s.num * p.den = a.rate in
    omega (arith, rate)

turn_later_by : (dn dd sn sd pn pd en ed quantum : ℕ) → pn * (sd * 32) ≡ sn * pd
    → en * (dd * 32) ≡ (dn + 31 * quantum * dd) * ed → dn * pn * (ed * sd) ≤ en * sn * (dd * pd)
turn_later_by dn dd sn sd pn pd en ed quantum rate error =
    let first = ap (λ (n : ℕ). n * (dn * ed)) rate in
    let second = ap (λ (n : ℕ). n * (sn * pd)) error in
    omega (arith, first, second)

pub turn-later : (quantum : ℕ) (s d p e : Frac) → IsTurnShare quantum s d p e → StartsNoLater s d p e
turn-later quantum s d p e a =
    turn_later_by d.num d.den s.num s.den p.num p.den e.num e.den quantum a.rate a.error

pub turn-shares : (quantum : ℕ) (m : Terms) (g h : Guarantee) → LendsByTerms (configs.Rr quantum) m g h
    → (s d p e : Frac) × (m ≡ terms.Turn) × (g ≡ Psbe s d) × (h ≡ Psbe p e) × IsTurnShare quantum s d p e
turn-shares quantum terms.Turn (Psbe s d) (Psbe p e) lends = (s, d, p, e, refl, refl, refl, lends)
turn-shares quantum _ _ _ lends = absurd lends

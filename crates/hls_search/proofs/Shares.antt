-- Parts of shares: how large they are, and from which share one comes.
use Rattle.std.proofs.Common.{◌≡◌, ℕ, ◌+◌, ◌*◌, ◌-◌, ◌^◌, ◌≤◌, ap, arith, mul-pos, mul-le-mul, mul-le-mul_left}
use Rattle.std.proofs.Math.Nat.{le_of_mul-le-mul_right}
use Rattle.hls_frac.specs.declared.Frac.{Frac}
use Rattle.hls_frac.specs.Frac.{IsQuotient}
use Rattle.hls_frac.proofs.Quotients.{quotient_of}
use Rattle.hls_guarantee.specs.declared.Guarantee.{Guarantee}
use Rattle.hls_guarantee.specs.declared.Guarantee.TheVariants.{Psbe}
use Rattle.hls_guarantee.specs.Limits.{IsValid, IsNarrow}
use Rattle.hls_search_laws.proofs.Quads.{IsQuad, IsBetter, quad, quad-ok, scaled, scaled-ok, better-trans}
use Rattle.hls_search_laws.proofs.Quads.{better-scaled, quotient-better, better-quotient}
use Rattle.hls_search_laws.proofs.Makes.{quotients-share}
use Rattle.hls_search.specs.Inside.Parts.{IsPartSize, IsPart, PartOf}

module _ (weight total others : ℕ) where
  -- rates and errors
  pub part-better : (s d p e : Frac) → IsPart weight total others s d p e
      → IsBetter (quad (Psbe p e)) (scaled (quad (Psbe s d)) weight total others)
  part-better s d p e part =
      quotient-better p.num p.den e.num e.den (s.num * weight) (s.den * total) _ _ part.rate part.error

  pub better-part : (s d p e : Frac) → IsPart weight total others s d p e
      → IsBetter (scaled (quad (Psbe s d)) weight total others) (quad (Psbe p e))
  better-part s d p e part =
      better-quotient p.num p.den e.num e.den (s.num * weight) (s.den * total) _ _ part.rate part.error

  -- of a better share the part is better
  pub parts-better : (a b f g s d p e : Frac) → IsPartSize weight total others → IsValid (Psbe a b)
      → IsValid (Psbe s d) → IsPart weight total others a b f g → IsPart weight total others s d p e
      → IsBetter (quad (Psbe a b)) (quad (Psbe s d)) → IsBetter (quad (Psbe f g)) (quad (Psbe p e))
  parts-better a b f g s d p e size va vs first second le =
      let ka : IsQuad (quad (Psbe a b)) = quad-ok (Psbe a b) va in
      let ks : IsQuad (quad (Psbe s d)) = quad-ok (Psbe s d) vs in
      let up : IsBetter (scaled (quad (Psbe a b)) weight total others) (scaled (quad (Psbe s d)) weight total others) =
      better-scaled (quad (Psbe a b)) (quad (Psbe s d)) weight total others le in
      better-trans (scaled-ok (quad (Psbe a b)) weight total others ka size.some size.fits)
      (part-better a b f g first)
      (better-trans (scaled-ok (quad (Psbe s d)) weight total others ks size.some size.fits) up
      (better-part s d p e second))

  -- how large they are
  pub part-valid : (s d p e : Frac) → IsPartSize weight total others → IsNarrow (Psbe s d)
      → IsPart weight total others s d p e → IsValid (Psbe p e)
  part-valid s d p e size narrow part =
      let pos : 1 ≤ total = omega (arith, size.some, size.fits) in
      let small : s.num ≤ 10 ^ 6 = omega (arith, narrow.fits, narrow.rate.den) in
      let num : s.num * weight ≤ 10 ^ 6 * 20 = mul-le-mul small size.light in
      let den : s.den * total ≤ 10 ^ 6 * 100 = mul-le-mul narrow.rate.den size.small in
      let paid : weight * d.num ≤ 20 * 10 ^ 10 = mul-le-mul size.light narrow.error.num in
      let lost : others * d.den ≤ 48000 * 10 ^ 6 = mul-le-mul size.few narrow.error.den in
      let under : total * d.den ≤ 100 * 10 ^ 6 = mul-le-mul size.small narrow.error.den in
      quotients-share (10 ^ 13) (10 ^ 8) (s.num * weight) (s.den * total) _ _ p e
      (mul-pos narrow.some size.some) (mul-le-mul narrow.fits size.fits) (mul-pos pos d.positive)
      (omega (arith, num)) (omega (arith, den)) (omega (arith, paid, lost)) (omega (arith, under)) part.rate
      part.error

  -- every share has such a part
  pub part-of : (s d : Frac) → IsPartSize weight total others
      → (p : Frac) × (e : Frac) × IsPart weight total others s d p e
  part-of s d size =
      let pos : 1 ≤ total = omega (arith, size.some, size.fits) in
      let p = quotient_of (s.num * weight) (s.den * total) (mul-pos s.positive pos) in
      let e = quotient_of (weight * d.num + others * d.den) (total * d.den) (mul-pos pos d.positive) in
      (p.0, e.0, record { rate = p.1; error = e.1 })

-- ---- the share from which one comes

lesser_rate : (pn pd sn sd total weight : ℕ) → 1 ≤ sd → sn ≤ sd → pn * (sd * total) ≡ sn * weight * pd
    → pn * total ≤ pd * weight
lesser_rate pn pd sn sd total weight pos fits rate =
    let up : pn * total * sd ≤ pd * weight * sd = omega (arith, rate, mul-le-mul_left (weight * pd) fits) in
    le_of_mul-le-mul_right {k = sd} up pos

lesser_error : (dn dd en ed total weight lost : ℕ) → 1 ≤ dd → en * (total * dd) ≡ (weight * dn + lost * dd) * ed
    → lost * ed ≤ en * total
lesser_error dn dd en ed total weight lost pos error =
    let up : lost * ed * dd ≤ en * total * dd = omega (arith, error) in
    le_of_mul-le-mul_right {k = dd} up pos

whole_rate : (pn pd sn sd total weight : ℕ) → sn * (pd * weight) ≡ pn * total * sd
    → pn * (sd * total) ≡ sn * weight * pd
whole_rate pn pd sn sd total weight rate = omega (arith, rate)

whole_error : (dn dd en ed total weight lost : ℕ) → lost * ed ≤ en * total
    → dn * (ed * weight) ≡ (en * total - lost * ed) * dd
    → en * (total * dd) ≡ (weight * dn + lost * dd) * ed
whole_error dn dd en ed total weight lost le error =
    let whole : en * total ≡ lost * ed + (en * total - lost * ed) = omega arith in
    let parts : en * total * dd ≡ (lost * ed + (en * total - lost * ed)) * dd = ap (λ (v : ℕ). v * dd) whole in
    omega (arith, error, parts)

-- no part has a higher rate or a smaller error
pub part-at_most : (weight total others : ℕ) (g : Guarantee) (p e : Frac) → IsValid g
    → PartOf weight total others g (Psbe p e) → (p.num * total ≤ p.den * weight) × (others * e.den ≤ e.num * total)
part-at_most weight total others (Psbe s d) p e share part = (
  lesser_rate p.num p.den s.num s.den total weight s.positive share.fits part.rate,
  lesser_error d.num d.den e.num e.den total weight others d.positive part.error,
)
part-at_most weight total others g p e share part = absurd part

module _ (weight total others : ℕ) (s d p e : Frac) where
  pub part-back : others * e.den ≤ e.num * total → IsQuotient s (p.num * total) (p.den * weight)
      → IsQuotient d (e.num * total - others * e.den) (e.den * weight) → IsPart weight total others s d p e
  part-back enough rate error = record {
    rate = whole_rate p.num p.den s.num s.den total weight rate;
    error = whole_error d.num d.den e.num e.den total weight others enough error;
  }

  pub back-valid : IsPartSize weight total others → IsNarrow (Psbe p e) → p.num * total ≤ p.den * weight
      → IsQuotient s (p.num * total) (p.den * weight)
      → IsQuotient d (e.num * total - others * e.den) (e.den * weight) → IsValid (Psbe s d)
  back-valid size narrow le rate error =
      let small : p.num ≤ 10 ^ 6 = omega (arith, narrow.fits, narrow.rate.den) in
      let pos : 1 ≤ total = omega (arith, size.some, size.fits) in
      let num : p.num * total ≤ 10 ^ 6 * 100 = mul-le-mul small size.small in
      let den : p.den * weight ≤ 10 ^ 6 * 20 = mul-le-mul narrow.rate.den size.light in
      let owed : e.num * total ≤ 10 ^ 10 * 100 = mul-le-mul narrow.error.num size.small in
      let under : e.den * weight ≤ 10 ^ 6 * 20 = mul-le-mul narrow.error.den size.light in
      quotients-share (10 ^ 13) (10 ^ 8) (p.num * total) (p.den * weight) _ _ s d
      (mul-pos narrow.some pos) le (mul-pos e.positive size.some)
      (omega (arith, num)) (omega (arith, den)) (omega (arith, owed)) (omega (arith, under)) rate error

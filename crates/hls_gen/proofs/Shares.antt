-- Three tenths, and 42.
use Rattle.std.proofs.Common.{◌≡◌, ℕ, suc, ap, ◌∙◌, refl, arith}
use Rattle.std.proofs.Math.Nat.{zero-lt-suc}
use Rattle.hls_frac.specs.declared.Frac.{Frac}
use Rattle.hls_frac.specs.Frac.{IsQuotient}
use Rattle.hls_frac.proofs.Quotients.{quotient_of, quotient-same, quotient-num, quotient-den}
use Rattle.hls_guarantee.specs.declared.Guarantee.TheVariants.{Psbe}
use Rattle.hls_guarantee.specs.Limits.{IsNarrow}
use Rattle.hls_gen.specs.Generated.{fraction, three_tenths}

is_fraction : (num less : ℕ) → IsQuotient (fraction num less) num (suc less)
is_fraction num less = (quotient_of num (suc less) (zero-lt-suc less)).1

fraction_is : (f : Frac) (num less : ℕ) → IsQuotient f num (suc less) → f ≡ fraction num less
fraction_is f num less is =
    quotient-same f (fraction num less) num (suc less) num (suc less) (zero-lt-suc less) (zero-lt-suc less) is
    (is_fraction num less) refl

pub share_is : (s d : Frac) (num less error fewer : ℕ) → IsQuotient s num (suc less) → IsQuotient d error (suc fewer)
    → Psbe s d ≡ Psbe (fraction num less) (fraction error fewer)
share_is s d num less error fewer a b =
    ap (λ f. Psbe f (d)) (fraction_is s num less a) ∙ ap (Psbe (fraction num less)) (fraction_is d error fewer b)

pub narrow_share : IsNarrow three_tenths
narrow_share =
    let s : Frac = fraction 3 9 in
    let d : Frac = fraction 42 0 in
    let rate = is_fraction 3 9 in
    let one = s.positive in
    let s_num = quotient-num s 3 10 (zero-lt-suc 9) (is_fraction 3 9) in
    let s_den = quotient-den s 3 10 (zero-lt-suc 9) (is_fraction 3 9) in
    let d_num = quotient-num d 42 1 (zero-lt-suc 0) (is_fraction 42 0) in
    let d_den = quotient-den d 42 1 (zero-lt-suc 0) (is_fraction 42 0) in
    record {
      some = omega (arith, rate, one);
      fits = omega (arith, rate);
      rate = record { num = omega (arith, s_num); den = omega (arith, s_den) };
      error = record { num = omega (arith, d_num); den = omega (arith, d_den) };
    }

-- What is lent gives one tick within no shorter a time than one of the candidates, within which it gives one as soon.
use Rattle.std.proofs.Common.{◌≡◌, ℕ, ◌+◌, ◌*◌, ◌-◌, ◌≤◌, inl, inr, false, refl, sym, subst, arith}
use Rattle.std.proofs.Math.Nat.{mul-le-mul_right}
use Rattle.hls_guarantee.specs.declared.Guarantee.{Guarantee}
use Rattle.hls_guarantee.specs.declared.Guarantee.TheVariants.{Resb, Resc, Psbe}
use Rattle.hls_guarantee.specs.Limits.{IsReservation, IsValid}
use Rattle.hls_search_laws.proofs.Quads.{IsQuad, quad, quad-ok, IsCovered, covered-from}
use Rattle.hls_search_laws.proofs.Closed.{Least, Closed}
use Rattle.hls_search_laws.proofs.Closed.Rates.{by4, by5}
use Rattle.hls_search_laws.proofs.Closed.Shape.{s3, c4}
use Rattle.hls_search_laws.proofs.Closed.Gives.{windows}
use Rattle.hls_search_laws.proofs.Closed.Closed.{bound, shape, same, rates}
use Rattle.hls_offer_laws.specs.Candidates.{IsLeast, Assures, IsWait}
use Rattle.hls_offer_laws.proofs.Shares.{share-even, share-some}
use Rattle.hls_offer_laws.proofs.Extremes.{wait_of, least-wait}
use Rattle.hls_offer_laws.proofs.WindowLaws.{least-not-null, covered-fits}

-- a candidate that is no longer, from what is lent
pub record Sooner (lent : Guarantee) (n : ℕ) (wait : ℕ) : Type 0 where
  pub best : ℕ
  pub candidate : IsWait lent best
  pub no_longer : best ≤ wait
  pub some : 1 ≤ best
  pub closed : Closed n lent (Resc false 1 best)

bound-wait : {n k : ℕ} (lent : Guarantee) (wait : ℕ) → IsValid lent → Least lent k → k ≤ n
    → IsCovered (quad lent) 1 wait → Sooner lent n wait
bound-wait lent wait valid least le under =
    let its = share-some lent valid (least-not-null least) in
    let even = share-even lent its.0 valid its.1 in
    let s = even.s in
    let d = even.d in
    let ok : IsQuad (quad lent) = quad-ok lent valid in
    let oks : IsQuad (quad (Psbe s d)) = quad-ok (Psbe s d) even.valid in
    let own : IsCovered (quad (Psbe s d)) 1 wait = covered-from 1 wait ok even.no_worse under in
    let best : ℕ = wait_of s.num s.den d.num d.den in
    let shortest = least-wait s d even.valid.some in
    let over : IsCovered (quad lent) 1 best = covered-from 1 best oks even.no_better shortest.meets in
    record {
      best = best;
      candidate = inr (inr (record {
        share = its.0;
        is = its.1;
        least = subst (λ v. IsLeast (λ ticks. Assures v 1 ticks) best) (sym even.is) shortest;
      }));
      no_longer = shortest.least wait own;
      some = covered-fits (quad lent) 1 best ok over;
      closed = bound least le (windows over);
    }

pub best-wait : {n : ℕ} {lent : Guarantee} (wait : ℕ) → IsValid lent → IsReservation 1 wait
    → Closed n lent (Resc false 1 wait) → Sooner lent n wait
best-wait wait vl vw same = record {
  best = wait;
  candidate = inl refl;
  no_longer = omega arith;
  some = vw.fits;
  closed = same;
}
best-wait wait vl vw (shape (s3 {x = a} {y = b} c d k)) =
    let whole : 2 * (b - a) + 1 + 2 * a ≡ 2 * b + 1 = omega (arith, vl.fits) in
    record {
      best = 2 * (b - a) + 1;
      candidate = inr (inl whole);
      no_longer = omega (arith, k, vl.fits);
      some = omega arith;
      closed = shape (s3 c d (omega (arith, vl.fits)));
    }
best-wait wait vl vw (shape (c4 {x = a} {y = b} k c some d far)) =
    let once : 1 * b ≤ k * b = mul-le-mul_right b some in
    record {
      best = b;
      candidate = inl refl;
      no_longer = omega (arith, once, far);
      some = omega (arith, vl.some, vl.fits);
      closed = shape (c4 1 c (omega arith) (omega (arith, vl.some)) (omega arith));
    }
best-wait wait vl vw (rates le (by4 way)) = elim way [ ]
best-wait wait vl vw (rates le (by5 way)) = elim way [ ]
best-wait {lent = lent} wait vl vw (bound least le (windows u)) = bound-wait lent wait vl least le u

-- a candidate is some ticks
pub wait-some : (lent : Guarantee) (wait : ℕ) → IsValid lent → IsWait lent wait → 1 ≤ wait
wait-some (Resb hard ticks period) wait valid (inl own) = omega (arith, own, valid.some, valid.fits)
wait-some (Resc hard ticks period) wait valid (inl own) = omega (arith, own, valid.some, valid.fits)
wait-some (Resb hard ticks period) wait valid (inr (inl spans)) = omega (arith, spans, valid.some, valid.fits)
wait-some _ wait valid (inl own) = absurd own
wait-some _ wait valid (inr (inl spans)) = absurd spans
wait-some lent wait valid (inr (inr shares)) =
    let even = share-even lent shares.share valid shares.is in
    covered-fits (quad (Psbe even.s even.d)) 1 wait (quad-ok (Psbe even.s even.d) even.valid)
    (subst (λ v. Assures v 1 wait) even.is shares.least.meets)

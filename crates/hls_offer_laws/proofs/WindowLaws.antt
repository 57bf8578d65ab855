-- What is lent gives no more of a window or a block than one of the candidates, which it gives as soon.
use Rattle.std.proofs.Common.{◌≡◌, ℕ, ◌+◌, ◌*◌, ◌/◌, ◌≤◌, inl, inr, false, refl, sym, subst, arith}
use Rattle.std.proofs.Math.Nat.{le_of_mul-le-mul_right, mul-le-mul}
use Rattle.hls_guarantee.specs.declared.Guarantee.{Guarantee}
use Rattle.hls_guarantee.specs.declared.Guarantee.TheVariants.{Null, Resb, Resc, Psbe}
use Rattle.hls_guarantee.specs.Conversions.{HasTimes}
use Rattle.hls_guarantee.specs.Limits.{IsReservation, IsValid}
use Rattle.hls_search_laws.proofs.Quads.{Quad, IsQuad, quad, quad-ok, IsCovered, covered-from}
use Rattle.hls_search_laws.proofs.Numbers.{covered-rate}
use Rattle.hls_search_laws.proofs.Closed.{Least, Closed}
use Rattle.hls_search_laws.proofs.Closed.Rates.{by4, by5}
use Rattle.hls_search_laws.proofs.Closed.Shape.{s1, s2h, s2s, s3, s4, c3, c4, c5}
use Rattle.hls_search_laws.proofs.Closed.Least.{least-all, least-blocks, least-windows, least-share}
use Rattle.hls_search_laws.proofs.Closed.Gives.{windows, blocks}
use Rattle.hls_search_laws.proofs.Closed.Closed.{bound, shape, same, rates}
use Rattle.hls_offer_laws.specs.Candidates.{IsMost, Assures, Slides, SharesTicks, IsWindow}
use Rattle.hls_offer_laws.proofs.Shares.{share-even, share-some}
use Rattle.hls_offer_laws.proofs.Extremes.{most_of, most-ticks, own-most, repeated-most, times-repeated}
use Rattle.hls_offer_laws.proofs.Extremes.{times-fit, span_of, span-most, slides-span, slides-fit}

-- a candidate that is no less, of the form, from what is lent
pub record Better (lent : Guarantee) (n : ℕ) (form : ℕ → Guarantee) (x y : ℕ) : Type 0 where
  pub best : ℕ
  pub candidate : IsWindow lent best y
  pub no_less : x ≤ best
  pub size : IsReservation best y
  pub closed : Closed n lent (form best)

pub least-not-null : {g : Guarantee} {k : ℕ} → Least g k → g ≡ Null → ⊥
least-not-null least-all none = (let no : ⊥ = cc in no)
least-not-null least-blocks none = (let no : ⊥ = cc in no)
least-not-null least-windows none = (let no : ⊥ = cc in no)
least-not-null least-share none = (let no : ⊥ = cc in no)

-- what a rate of at most 1 covers is no more than all ticks
pub covered-fits : (k : Quad) (x y : ℕ) → IsQuad k → IsCovered k x y → x ≤ y
covered-fits k x y ok under =
    let rate : x * k.b ≤ k.a * y = covered-rate k.a k.b k.p k.q x y ok.under under in
    let most : k.a * y ≤ k.b * y = mul-le-mul ok.fits (omega arith) in
    le_of_mul-le-mul_right {k = k.b} (omega (arith, rate, most)) (omega (arith, ok.some, ok.fits))

covers-some : (x y sn sd dn dd : ℕ) → (x * dd + dn) * sd ≤ sn * y * dd → dn * sd ≤ sn * y * dd
covers-some x y sn sd dn dd under = omega (arith, under)

-- what a bound of rate and error gives
pub record Paced (lent : Guarantee) (x y : ℕ) : Type 0 where
  pub best : ℕ
  pub shares : SharesTicks lent best y
  pub no_less : x ≤ best
  pub size : IsReservation best y
  pub covered : IsCovered (quad lent) best y

pub paced : (lent : Guarantee) (x y : ℕ) → IsValid lent → (lent ≡ Null → ⊥) → IsReservation x y
    → IsCovered (quad lent) x y → Paced lent x y
paced lent x y valid some size under =
    let its = share-some lent valid some in
    let even = share-even lent its.0 valid its.1 in
    let s = even.s in
    let d = even.d in
    let ok : IsQuad (quad lent) = quad-ok lent valid in
    let oks : IsQuad (quad (Psbe s d)) = quad-ok (Psbe s d) even.valid in
    let own : IsCovered (quad (Psbe s d)) x y = covered-from x y ok even.no_worse under in
    let least : d.num * s.den ≤ s.num * y * d.den = covers-some x y s.num s.den d.num d.den own in
    let best : ℕ = most_of s.num s.den d.num d.den y in
    let most = most-ticks s d y least in
    let no_less : x ≤ best = most.most x own in
    let over : IsCovered (quad lent) best y = covered-from best y oks even.no_better most.meets in
    record {
      best = best;
      shares = record {
        share = its.0;
        is = its.1;
        some = omega (arith, size.some, no_less);
        most = subst (λ v. IsMost (λ ticks. Assures v ticks y) best) (sym even.is) most;
      };
      no_less = no_less;
      size = record {
        some = omega (arith, size.some, no_less);
        fits = covered-fits (quad lent) best y ok over;
        size = size.size;
      };
      covered = over;
    }

-- what so many windows give
record Repeated (ticks period x y : ℕ) : Type 0 where
  pub best : ℕ
  pub some : 1 ≤ best
  pub most : IsMost (λ more. HasTimes ticks period more y) best
  pub no_less : x ≤ best
  pub size : IsReservation best y

repeated : (ticks period x y : ℕ) → IsReservation ticks period → IsReservation x y → HasTimes ticks period x y
    → Repeated ticks period x y
repeated ticks period x y own size has =
    let pos : 1 ≤ period = omega (arith, own.some, own.fits) in
    let le : x ≤ y / period * ticks = times-repeated ticks period x y pos has in
    let some : 1 ≤ y / period * ticks = omega (arith, size.some, le) in
    let most = repeated-most ticks period y pos some in
    record {
      best = y / period * ticks;
      some = some;
      most = most;
      no_less = le;
      size = record { some = some; fits = times-fit ticks period _ y own.fits most.meets; size = size.size };
    }

-- what blocks give as windows
record Spanned (ticks period x y : ℕ) : Type 0 where
  pub best : ℕ
  pub some : 1 ≤ best
  pub most : IsMost (λ more. Slides more y ticks period) best
  pub no_less : x ≤ best
  pub size : IsReservation best y

spanned : (ticks period x y : ℕ) → IsReservation ticks period → IsReservation x y → Slides x y ticks period
    → Spanned ticks period x y
spanned ticks period x y own size slides =
    let le : x ≤ span_of ticks period y = slides-span x y ticks period own.fits slides in
    let some : 1 ≤ span_of ticks period y = omega (arith, size.some, le) in
    let most = span-most ticks period y own.fits some in
    record {
      best = span_of ticks period y;
      some = some;
      most = most;
      no_less = le;
      size = record { some = some; fits = slides-fit _ y ticks period own.fits most.meets; size = size.size };
    }

bound-blocks : {n k : ℕ} (lent : Guarantee) (x y : ℕ) → IsValid lent → IsReservation x y → Least lent k → k ≤ n
    → IsCovered (quad lent) x y → Better lent n (λ ticks. Resb false ticks y) x y
bound-blocks lent x y valid size least le under =
    let p = paced lent x y valid (least-not-null least) size under in
    record {
      best = p.best;
      candidate = inr (inr p.shares);
      no_less = p.no_less;
      size = p.size;
      closed = bound least le (blocks p.covered);
    }

bound-windows : {n k : ℕ} (lent : Guarantee) (x y : ℕ) → IsValid lent → IsReservation x y → Least lent k → k ≤ n
    → IsCovered (quad lent) x y → Better lent n (λ ticks. Resc false ticks y) x y
bound-windows lent x y valid size least le under =
    let p = paced lent x y valid (least-not-null least) size under in
    record {
      best = p.best;
      candidate = inr (inr p.shares);
      no_less = p.no_less;
      size = p.size;
      closed = bound least le (windows p.covered);
    }

pub best-blocks : {n : ℕ} {lent : Guarantee} (x y : ℕ) → IsValid lent → IsReservation x y
    → Closed n lent (Resb false x y) → Better lent n (λ ticks. Resb false ticks y) x y
best-blocks x y vl vw same = record {
  best = x;
  candidate = inl (refl, refl);
  no_less = omega arith;
  size = vw;
  closed = same;
}
best-blocks x y vl vw (shape (s1 c)) = record {
  best = x;
  candidate = inl (refl, refl);
  no_less = omega arith;
  size = vl;
  closed = shape (s1 c);
}
best-blocks x y vl vw (shape (s2h {x = a} c d)) = record {
  best = a;
  candidate = inl (refl, refl);
  no_less = d;
  size = vl;
  closed = shape (s1 (omega arith));
}
best-blocks x y vl vw (shape (s2s {x = a} c d)) = record {
  best = a;
  candidate = inl (refl, refl);
  no_less = d;
  size = vl;
  closed = same;
}
best-blocks x y vl vw (shape (s4 {x = a} {y = b} c d far)) =
    let s = spanned a b x y vl vw (d, far) in
    record {
      best = s.best;
      candidate = inr (inl (s.some, s.most));
      no_less = s.no_less;
      size = s.size;
      closed = shape (s4 c s.most.meets.0 s.most.meets.1);
    }
best-blocks x y vl vw (shape (c3 c)) = record {
  best = x;
  candidate = inl (vl.some, own-most x y (omega (arith, vl.some, vl.fits)));
  no_less = omega arith;
  size = vl;
  closed = shape (c3 c);
}
best-blocks x y vl vw (shape (c5 {x = a} {y = b} k c some d far)) =
    let s = repeated a b x y vl vw (record { times = k; some = some; enough = d; within = far }) in
    let has = s.most.meets in
    record {
      best = s.best;
      candidate = inl (s.some, s.most);
      no_less = s.no_less;
      size = s.size;
      closed = shape (c5 has.times c has.some has.enough has.within);
    }
best-blocks x y vl vw (rates le (by4 way)) = elim way [ ]
best-blocks x y vl vw (rates le (by5 way)) = elim way [ ]
best-blocks {lent = lent} x y vl vw (bound least le (blocks u)) = bound-blocks lent x y vl vw least le u

pub best-windows : {n : ℕ} {lent : Guarantee} (x y : ℕ) → IsValid lent → IsReservation x y
    → Closed n lent (Resc false x y) → Better lent n (λ ticks. Resc false ticks y) x y
best-windows x y vl vw same = record {
  best = x;
  candidate = inl (vl.some, own-most x y (omega (arith, vl.some, vl.fits)));
  no_less = omega arith;
  size = vw;
  closed = same;
}
best-windows x y vl vw (shape (s3 {x = a} {y = b} c d far)) =
    let s = spanned a b x y vl vw (d, far) in
    record {
      best = s.best;
      candidate = inr (inl (s.some, s.most));
      no_less = s.no_less;
      size = s.size;
      closed = shape (s3 c s.most.meets.0 s.most.meets.1);
    }
best-windows x y vl vw (shape (c4 {x = a} {y = b} k c some d far)) =
    let s = repeated a b x y vl vw (record { times = k; some = some; enough = d; within = far }) in
    let has = s.most.meets in
    record {
      best = s.best;
      candidate = inl (s.some, s.most);
      no_less = s.no_less;
      size = s.size;
      closed = shape (c4 has.times c has.some has.enough has.within);
    }
best-windows x y vl vw (rates le (by4 way)) = elim way [ ]
best-windows x y vl vw (rates le (by5 way)) = elim way [ ]
best-windows {lent = lent} x y vl vw (bound least le (windows u)) = bound-windows lent x y vl vw least le u

-- a candidate is a number of ticks that a reservation may have
pub window-size : (lent : Guarantee) (x y : ℕ) → IsValid lent → y ≤ 20000 → IsWindow lent x y → IsReservation x y
window-size (Resb hard ticks period) x y valid small (inl own) = record {
  some = omega (arith, own.0, valid.some);
  fits = omega (arith, own.0, own.1, valid.fits);
  size = small;
}
window-size (Resc hard ticks period) x y valid small (inl own) =
    record { some = own.0; fits = times-fit ticks period x y valid.fits own.1.meets; size = small }
window-size (Resb hard ticks period) x y valid small (inr (inl spans)) =
    record { some = spans.0; fits = slides-fit x y ticks period valid.fits spans.1.meets; size = small }
window-size _ x y valid small (inl own) = absurd own
window-size _ x y valid small (inr (inl spans)) = absurd spans
window-size lent x y valid small (inr (inr shares)) =
    let even = share-even lent shares.share valid shares.is in
    let under : IsCovered (quad (Psbe even.s even.d)) x y =
    subst (λ v. Assures v x y) even.is shares.most.meets in
    record {
      some = shares.some;
      fits = covered-fits (quad (Psbe even.s even.d)) x y (quad-ok (Psbe even.s even.d) even.valid) under;
      size = small;
    }

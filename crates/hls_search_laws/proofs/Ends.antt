-- What chains cannot do, and how they go on.
use Rattle.std.proofs.Common.{◌≡◌, ℕ, ◌≤◌, true, ◌⊎◌, List, inl, inr, refl, arith}
use Rattle.hls_frac.specs.declared.Frac.{Frac}
use Rattle.hls_guarantee.specs.declared.Guarantee.{Guarantee}
use Rattle.hls_guarantee.specs.declared.Guarantee.TheVariants.{All, Null, Resb, Resc, Psbe}
use Rattle.hls_guarantee.specs.declared.rule.RuleName.{RuleName}
use Rattle.hls_guarantee.specs.declared.rule.RuleName.TheVariants.{R1}
use Rattle.hls_guarantee.specs.Conversions.{Converts}
use Rattle.hls_guarantee.specs.Satisfaction.{IsSoft}
use Rattle.hls_guarantee.specs.Limits.{IsValid}
use Rattle.hls_search_laws.specs.Words.{Reaches, IsFound}
use Rattle.hls_search_laws.proofs.Quads.{IsBetter, quad, quad-ok, better-trans, covered-from}
use Rattle.hls_search_laws.proofs.Ways.Way.{r4, r5}
use Rattle.hls_search_laws.proofs.Closed.{Closed, least-some}
use Rattle.hls_search_laws.proofs.Closed.Rates.{by4, by5}
use Rattle.hls_search_laws.proofs.Closed.Shape.{s1, s2h, s2s, s3, s4, c1, c3, c4, c5}
use Rattle.hls_search_laws.proofs.Closed.Least.{least-share}
use Rattle.hls_search_laws.proofs.Closed.Gives.{share, windows, blocks}
use Rattle.hls_search_laws.proofs.Closed.Closed.{bound, null, shape, same, rates}
use Rattle.hls_search_laws.proofs.Shapes.{shape-some}
use Rattle.hls_search_laws.proofs.Chains.{reach-end}
use Rattle.hls_search_laws.proofs.Reached.{reach-closed}
use Rattle.hls_search_laws.proofs.Finding.{found-closed}

-- nothing but NULL follows NULL
pub closed-null : {n : ℕ} {h : Guarantee} → Closed n Null h → h ≡ Null
closed-null same = refl
closed-null (null l) = refl
closed-null (shape s) = elim s [ ]
closed-null (rates l (by4 way)) = elim way [ ]
closed-null (rates l (by5 way)) = elim way [ ]
closed-null (bound l k t) = elim l [ ]

-- no conversion at all
pub closed-zero : {n : ℕ} {g h : Guarantee} → n ≤ 0 → Closed n g h → g ≡ h
closed-zero le same = refl
closed-zero le (null l) = absurd (omega arith)
closed-zero le (shape s) = absurd (omega (arith, shape-some s))
closed-zero le (rates l e) = absurd (omega arith)
closed-zero le (bound l k t) = absurd (omega (arith, least-some l))

-- no conversion concludes every tick
pub closed-all : {n : ℕ} {g : Guarantee} → Closed n g All → g ≡ All
closed-all same = refl
closed-all (shape s) = elim s [ ]
closed-all (rates l (by4 way)) = elim way [ ]
closed-all (rates l (by5 way)) = elim way [ ]
closed-all (bound l k t) = elim t [ ]

-- none concludes hard windows, and hard blocks come from hard windows alone
pub closed-windows : {n : ℕ} {g : Guarantee} {x y : ℕ} → Closed n g (Resc true x y) → g ≡ Resc true x y
closed-windows same = refl
closed-windows (shape s) = elim s [ ]
closed-windows (rates l (by4 way)) = elim way [ ]
closed-windows (rates l (by5 way)) = elim way [ ]
closed-windows (bound l k t) = elim t [ ]

pub closed-blocks : {n : ℕ} {g : Guarantee} {x y : ℕ} → Closed n g (Resb true x y)
    → (g ≡ Resb true x y) ⊎ (g ≡ Resc true x y)
closed-blocks same = inl refl
closed-blocks (shape (c1 c)) = inr refl
closed-blocks (rates l (by4 way)) = elim way [ ]
closed-blocks (rates l (by5 way)) = elim way [ ]
closed-blocks (bound l k t) = elim t [ ]

-- what follows from what is soft is soft
pub soft-on : {n : ℕ} {g h : Guarantee} → IsSoft g → Closed n g h → IsSoft h
soft-on soft same = soft
soft-on soft (null l) = tt
soft-on soft (bound l k (share t)) = tt
soft-on soft (bound l k (windows t)) = refl
soft-on soft (bound l k (blocks t)) = refl
soft-on soft (rates l (by4 (r4 e f))) = tt
soft-on soft (rates l (by5 (r5 e f))) = tt
soft-on soft (shape (s1 c)) = refl
soft-on soft (shape (s2h c d)) = refl
soft-on soft (shape (s2s c d)) = refl
soft-on soft (shape (s3 c d e)) = refl
soft-on soft (shape (s4 c d e)) = refl
soft-on soft (shape (c1 c)) = soft
soft-on soft (shape (c3 c)) = refl
soft-on soft (shape (c4 k c d i j)) = refl
soft-on soft (shape (c5 k c d i j)) = refl

-- a better share reaches as much, by one conversion
pub closed-better : {n : ℕ} {s d t e : Frac} {w : Guarantee} (k : ℕ) → 1 ≤ k → IsValid (Psbe t e)
    → IsBetter (quad (Psbe s d)) (quad (Psbe t e)) → Closed n (Psbe t e) w → Closed k (Psbe s d) w
closed-better k some v t same = bound least-share some (share t)
closed-better k some v t (null l) = null some
closed-better k some v t (shape s) = elim s [ ]
closed-better k some v t (rates l (by4 way)) = elim way [ ]
closed-better k some v t (rates l (by5 way)) = elim way [ ]
closed-better {t = u} {e = e} k some v t (bound least-share l (share x)) =
    bound least-share some (share (better-trans (quad-ok (Psbe u e) v) t x))
closed-better {t = u} {e = e} k some v t (bound least-share l (windows {x = x} {y = y} z)) =
    bound least-share some (windows (covered-from x y (quad-ok (Psbe u e) v) t z))
closed-better {t = u} {e = e} k some v t (bound least-share l (blocks {x = x} {y = y} z)) =
    bound least-share some (blocks (covered-from x y (quad-ok (Psbe u e) v) t z))

pub found-more : {n : ℕ} {g w : Guarantee} (k : ℕ) → n ≤ k → IsFound n g w → IsFound k g w
found-more k le found = record {
  word = found.word;
  known = found.known;
  fits = (let f = found.fits in omega arith);
  walks = found.walks;
}

pub reach-better : (chain : List RuleName) (s d t e : Frac) (h : Guarantee) → Converts R1 (Psbe s d) (Psbe t e)
    → Reaches chain (Psbe t e) h → IsFound 1 (Psbe s d) h
reach-better chain s d t e h c r =
    let better : IsBetter (quad (Psbe s d)) (quad (Psbe t e)) = record { rate = c.leads.0; delay = c.leads.1 } in
    found-closed 1 c.from (reach-end chain (Psbe t e) h c.to r)
    (closed-better 1 (omega arith) c.to better (reach-closed chain (Psbe t e) h r))

-- The share of a guarantee: there is one, it is as good, and at fair queueing the best one is it.
use Rattle.std.proofs.Common.{Bool, ◌≡◌, ℕ, ◌*◌, ◌-◌, List, [], ◌∷◌, refl, sym, subst, arith}
use Rattle.hls_frac.specs.declared.Frac.{Frac}
use Rattle.hls_frac.proofs.Quotients.{quotient_of}
use Rattle.hls_guarantee.specs.declared.Guarantee.{Guarantee}
use Rattle.hls_guarantee.specs.declared.Guarantee.TheVariants.{All, Null, Resb, Resc, Psbe}
use Rattle.hls_guarantee.specs.declared.rule.RuleName.TheVariants.{R1, R4, R5, R8}
use Rattle.hls_guarantee.specs.Limits.{IsValid, IsNarrow}
use Rattle.hls_guarantee.specs.Conversions.{Converts}
use Rattle.hls_derive.specs.Derives.{IsWholeShare}
use Rattle.hls_derive.specs.declared.derivation.Step.{Step}
use Rattle.hls_derive.specs.Answers.{IsStrongest}
use Rattle.hls_rules.proofs.BestOnes.{single-strongest}
use Rattle.hls_search.proofs.Hitting.{best-one}
use Rattle.hls_search_laws.proofs.Quads.{IsBetter, quad, quad-ok, better-refl, better-all}
use Rattle.hls_search_laws.proofs.Quads.{quotient-better, better-quotient}
use Rattle.hls_search_laws.proofs.Ways.{Way, converts-way, way-converts}
use Rattle.hls_search_laws.proofs.Ways.Way.{r1p, r4, r5}
use Rattle.hls_search_laws.proofs.Makes.{make-blocks, make-windows, narrow-valid, share-narrow}
use Rattle.hls_search_laws.proofs.Makes.{blocks-most, windows-most}
use Rattle.hls_search.specs.Inside.Chains.{LeadsTo}
use Rattle.hls_search.specs.Inside.Places.{IsBestShare}
use Rattle.hls_search.specs.Inside.Places.IsBestShare.{itself, of_blocks, of_windows, of_all}
use Rattle.hls_search.proofs.BestShares.{whole-narrow, whole-better}
use Rattle.hls_offer_laws.specs.Offered.{IsShareOf}

-- a share of the same rate and error
pub record IsEven (g share : Guarantee) : Type 0 where
  pub s : Frac
  pub d : Frac
  pub is : share ≡ Psbe s d
  pub valid : IsValid (Psbe s d)
  pub no_worse : IsBetter (quad (Psbe s d)) (quad g)
  pub no_better : IsBetter (quad g) (quad (Psbe s d))

even-blocks : {g h : Guarantee} → IsValid h → Way R4 g h → IsEven g h
even-blocks valid (r4 {x = x} {y = y} {s = s} {d = d} rate error) = record {
  s = s;
  d = d;
  is = refl;
  valid = valid;
  no_worse = quotient-better s.num s.den d.num d.den x y (x * (2 * (y - x))) y rate error;
  no_better = better-quotient s.num s.den d.num d.den x y (x * (2 * (y - x))) y rate error;
}

even-windows : {g h : Guarantee} → IsValid h → Way R5 g h → IsEven g h
even-windows valid (r5 {x = x} {y = y} {s = s} {d = d} rate error) = record {
  s = s;
  d = d;
  is = refl;
  valid = valid;
  no_worse = quotient-better s.num s.den d.num d.den x y (x * (y - x)) y rate error;
  no_better = better-quotient s.num s.den d.num d.den x y (x * (y - x)) y rate error;
}

even-whole : (share : Guarantee) → IsWholeShare share → IsEven All share
even-whole (Psbe s d) whole = record {
  s = s;
  d = d;
  is = refl;
  valid = narrow-valid (Psbe s d) (whole-narrow s d whole);
  no_worse = whole-better s d (quad All) whole (quad-ok All tt);
  no_better = better-all (quad (Psbe s d)) (quad-ok (Psbe s d) (narrow-valid (Psbe s d) (whole-narrow s d whole)));
}
even-whole _ whole = absurd whole

pub share-even : (g share : Guarantee) → IsValid g → IsShareOf g share → IsEven g share
share-even All share valid is = even-whole share is
share-even Null share valid is = absurd is
share-even (Resb hard x y) share valid is = even-blocks is.to (converts-way R4 (Resb hard x y) share is)
share-even (Resc hard x y) share valid is = even-windows is.to (converts-way R5 (Resc hard x y) share is)
share-even (Psbe s d) share valid is = record {
  s = s;
  d = d;
  is = is;
  valid = valid;
  no_worse = better-refl (quad (Psbe s d));
  no_better = better-refl (quad (Psbe s d));
}

pub whole-share : (share : Guarantee) × IsWholeShare share
whole-share =
    let one = quotient_of 1 1 (omega arith) in
    let zero = quotient_of 0 1 (omega arith) in
    (Psbe one.0 zero.0, (one.1, zero.1))

pub share-some : (g : Guarantee) → IsValid g → (g ≡ Null → ⊥) → (share : Guarantee) × IsShareOf g share
share-some All valid some = whole-share
share-some Null valid some = absurd (some refl)
share-some (Resb hard x y) valid some =
    let m = make-blocks x y valid in
    (Psbe m.s m.d, way-converts valid (narrow-valid (Psbe m.s m.d) m.narrow) (r4 m.rate m.error))
share-some (Resc hard x y) valid some =
    let m = make-windows x y valid in
    (Psbe m.s m.d, way-converts valid (narrow-valid (Psbe m.s m.d) m.narrow) (r5 m.rate m.error))
share-some (Psbe s d) valid some = (Psbe s d, refl)

narrow-blocks : {g h : Guarantee} → IsNarrow g → Way R4 g h → IsNarrow h
narrow-blocks narrow (r4 {x = x} {y = y} {s = s} {d = d} rate error) =
    share-narrow x y _ s d narrow (blocks-most x y narrow) rate error

narrow-windows : {g h : Guarantee} → IsNarrow g → Way R5 g h → IsNarrow h
narrow-windows narrow (r5 {x = x} {y = y} {s = s} {d = d} rate error) =
    share-narrow x y _ s d narrow (windows-most x y narrow) rate error

narrow-whole : (share : Guarantee) → IsWholeShare share → IsNarrow share
narrow-whole (Psbe s d) whole = whole-narrow s d whole
narrow-whole _ whole = absurd whole

pub narrow-share : (g share : Guarantee) → IsNarrow g → IsShareOf g share → IsNarrow share
narrow-share All share narrow is = narrow-whole share is
narrow-share Null share narrow is = absurd is
narrow-share (Resb hard x y) share narrow is = narrow-blocks narrow (converts-way R4 (Resb hard x y) share is)
narrow-share (Resc hard x y) share narrow is = narrow-windows narrow (converts-way R5 (Resc hard x y) share is)
narrow-share (Psbe s d) share narrow is = subst IsNarrow (sym is) narrow

pub better-converts : (s d t e : Frac) → IsValid (Psbe s d) → IsValid (Psbe t e)
    → IsBetter (quad (Psbe s d)) (quad (Psbe t e)) → Converts R1 (Psbe s d) (Psbe t e)
better-converts s d t e from to better = way-converts from to (r1p better.rate better.delay)

-- ---- the best share is the share

pub best-share : {g share : Guarantee} {count : ℕ} → IsBestShare g count share → IsShareOf g share
best-share itself = refl
best-share (of_blocks c) = c
best-share (of_windows c) = c
best-share (of_all whole) = whole

whole-converts : (share : Guarantee) → IsWholeShare share → Converts R8 All share
whole-converts (Psbe s d) whole =
    record { from = tt; to = narrow-valid (Psbe s d) (whole-narrow s d whole); leads = tt }
whole-converts _ whole = absurd whole

by-step : {g h : Guarantee} (step : Step) → step.to ≡ h → Converts step.rule g step.to
    → (steps : List Step) × LeadsTo 1 g h steps
by-step step same c =
    (step ∷ [], record { follows = (c, tt); ends = same; fits = omega arith })

pub best-leads : {g share : Guarantee} {count : ℕ} → IsBestShare g count share
    → (steps : List Step) × LeadsTo count g share steps
best-leads itself = ([], record { follows = tt; ends = refl; fits = omega arith })
best-leads (of_blocks {h = h} c) = by-step (record { rule = R4; to = h }) refl c
best-leads (of_windows {h = h} c) = by-step (record { rule = R5; to = h }) refl c
best-leads (of_all {h = h} whole) = by-step (record { rule = R8; to = h }) refl (whole-converts h whole)

-- a share in one conversion, or none
pub share-leads : (g share : Guarantee) → IsValid g → IsShareOf g share → (steps : List Step) × LeadsTo 1 g share steps
share-leads All share valid is = by-step (record { rule = R8; to = share }) refl (whole-converts share is)
share-leads Null share valid is = absurd is
share-leads (Resb hard x y) share valid is = by-step (record { rule = R4; to = share }) refl is
share-leads (Resc hard x y) share valid is = by-step (record { rule = R5; to = share }) refl is
share-leads (Psbe s d) share valid is =
    ([], record { follows = tt; ends = sym is; fits = omega arith })

pub share-valid : (g share : Guarantee) → IsValid g → IsShareOf g share → IsValid share
share-valid g share valid is =
    let even = share-even g share valid is in
    subst IsValid (sym even.is) even.valid

-- ---- there is one share

share-best : (g share : Guarantee) → IsShareOf g share → (count : ℕ) × IsBestShare g count share
share-best All share is = (1, of_all is)
share-best Null share is = absurd is
share-best (Resb hard x y) share is = (1, of_blocks is)
share-best (Resc hard x y) share is = (1, of_windows is)
share-best (Psbe s d) share is = (0, subst (λ v. IsBestShare (Psbe s d) 0 v) (sym is) itself)

pub share-one : (g share other : Guarantee) → IsShareOf g share → IsShareOf g other → share ≡ other
share-one g share other is also = (best-one (share-best g share is).1 (share-best g other also).1).1

-- the rules that make a share of a reservation have a strongest conclusion
pub blocks-answered : (g : Guarantee) (hard : Bool) (x y : ℕ) → g ≡ Resb hard x y → IsValid g
    → ((h : Guarantee) → IsStrongest R4 g h → ⊥) → ⊥
blocks-answered g hard x y is valid none =
    let its = share-some (Resb hard x y) (subst IsValid is valid) (λ e. (let no : ⊥ = cc in no)) in
    none its.0 (subst (λ v. IsStrongest R4 v its.0) (sym is) (single-strongest R4 (Resb hard x y) its.0 tt its.1))

pub windows-answered : (g : Guarantee) (hard : Bool) (x y : ℕ) → g ≡ Resc hard x y → IsValid g
    → ((h : Guarantee) → IsStrongest R5 g h → ⊥) → ⊥
windows-answered g hard x y is valid none =
    let its = share-some (Resc hard x y) (subst IsValid is valid) (λ e. (let no : ⊥ = cc in no)) in
    none its.0 (subst (λ v. IsStrongest R5 v its.0) (sym is) (single-strongest R5 (Resc hard x y) its.0 tt its.1))

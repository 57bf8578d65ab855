-- From what is lent, what is offered comes by a chain of conversions, and what else does so is offered too.
use Rattle.std.proofs.Common.{◌≡◌, ℕ, ◌+◌, ◌-◌, ◌≤◌, ◌<◌, ◌⊎◌, inl, inr, List, [], ◌∷◌, refl, sym, subst, arith}
use Rattle.std.specs.Prelude.{Some, slice_get}
use Rattle.hls_frac.specs.declared.Frac.{Frac}
use Rattle.hls_frac.proofs.Quotients.{quotient_of}
use Rattle.hls_chron.specs.declared.plain.Config.{Config}
use Rattle.hls_chron.specs.declared.plain.Config.TheVariants as configs
use Rattle.hls_chron.specs.declared.plain.Terms.{Terms}
use Rattle.hls_chron.specs.declared.plain.Terms.TheVariants as terms
use Rattle.hls_chron.specs.Ranges.{ConfigInRange, TermsInRange}
use Rattle.hls_guarantee.specs.declared.Guarantee.{Guarantee}
use Rattle.hls_guarantee.specs.declared.Guarantee.TheVariants.{All, Null, Psbe}
use Rattle.hls_guarantee.specs.declared.rule.RuleName.TheVariants.{R1, R8}
use Rattle.hls_guarantee.specs.Satisfaction.{IsSoft}
use Rattle.hls_guarantee.specs.Limits.{IsValid, IsNarrow}
use Rattle.hls_guarantee.specs.Conversions.{Converts}
use Rattle.hls_chron.specs.Kinds.{kind_of, IsPort}
use Rattle.hls_guarantee.specs.Steps.{LendsByTerms, LendsNothing}
use Rattle.hls_derive.specs.declared.derivation.Place.{Place}
use Rattle.hls_derive.specs.declared.derivation.Step.{Step}
use Rattle.hls_derive.specs.declared.derivation.Derivation.{Derivation}
use Rattle.hls_derive.specs.Derivation.{conversions}
use Rattle.hls_derive.specs.Derives.{IsDerivation, IsWholeShare}
use Rattle.hls_search_laws.proofs.Quads.{IsBetter, quad, quad-ok}
use Rattle.hls_search_laws.proofs.Closed.{Closed}
use Rattle.hls_search_laws.proofs.Makes.{narrow-valid}
use Rattle.hls_search_laws.proofs.Ends.{closed-null}
use Rattle.hls_search.specs.Search.{CanSearch}
use Rattle.hls_search.specs.Inside.Chains.{LeadsTo}
use Rattle.hls_search.specs.Inside.Parts.{IsPart, PartOf}
use Rattle.hls_search.specs.Inside.Places.{HitsByBest, HitsByGoal, LendsOfAll, LendsShares}
use Rattle.hls_search.proofs.BestShares.{whole-narrow, whole-better}
use Rattle.hls_search.proofs.Completing.{Parts, parts, derived-after, derived-shares, narrow-at}
use Rattle.hls_search.proofs.Deriving.{lent-valid, leads-none}
use Rattle.hls_search.proofs.Shares.{part-of, parts-better}
use Rattle.hls_search.proofs.Taking.{LendsPart, parted}
use Rattle.hls_offer_laws.specs.Offered.{CanOffer, IsOffered, IsShareOf, IsLentOf, IsLent}
use Rattle.hls_offer_laws.proofs.Leading.{closed-leads, found-reached, offered}
use Rattle.hls_offer_laws.proofs.Lent.{share-by}
use Rattle.hls_offer_laws.proofs.Shares.{narrow-share, best-share, best-leads, better-converts}

pub record Comes (place : Place) (haves : List Guarantee) (n : ℕ) (wanted : Guarantee) : Type 0 where
  pub lent : Guarantee
  pub is : IsLent place haves lent
  pub valid : IsValid lent
  pub room : ℕ
  pub fits : room ≤ n
  pub closed : Closed room lent wanted
  pub also : (other : Guarantee) → IsValid other → IsSoft other → Closed room lent other
      → IsOffered place haves n other

nothing-null : (config : Config) (wanted : Guarantee) → LendsNothing config wanted → wanted ≡ Null
nothing-null configs.Cpu wanted nothing = absurd nothing
nothing-null _ wanted nothing = nothing

not-null : {n : ℕ} {g h : Guarantee} → Closed n g h → (h ≡ Null → ⊥) → g ≡ Null → ⊥
not-null {n} {g} {h} c some null = some (closed-null (subst (λ v. Closed n v h) null c))

pub can-search : (place : Place) (haves : List Guarantee) (wanted : Guarantee) → CanOffer place haves
    → IsNarrow wanted → CanSearch place haves wanted
can-search place haves wanted can narrow = record {
  config = can.config;
  terms = can.terms;
  ports = can.ports;
  each_have = can.each_have;
  wanted = narrow;
}

-- the conversions stand before the step, through which the guarantee goes unchanged
module _ (place : Place) (haves : List Guarantee) (n room port : ℕ) (have : Guarantee)
    (there : slice_get haves port ≡ Some have) (valid : IsValid have) (port_of : IsPort place.config port)
    (fits : room ≤ n) where
  pub before-also : (other : Guarantee) → IsValid other → LendsByTerms place.config place.terms other other
      → Closed room have other → IsOffered place haves n other
  before-also other vo lends c =
      let chain = closed-leads room have other valid vo c in
      offered place haves other n room 0 port have other other chain.0 [] there
      (record { from = vo; to = vo; port_of = port_of; lends = inl lends }) chain.1 (leads-none other) (omega arith)

  -- and behind it, from what it lends
  pub after-also : (lent : Guarantee) → IsValid lent → LendsByTerms place.config place.terms have lent
      → (other : Guarantee) → IsValid other → Closed room lent other → IsOffered place haves n other
  after-also lent vl lends other vo c =
      let chain = closed-leads room lent other vl vo c in
      offered place haves other n 0 room port have have lent [] chain.0 there
      (record { from = valid; to = vl; port_of = port_of; lends = inl lends }) (leads-none have) chain.1 (omega arith)

-- by cases of the place, from the parts of a derivation through this port
module _ (haves : List Guarantee) (wanted : Guarantee) (n port : ℕ) (have : Guarantee)
    (there : slice_get haves port ≡ Some have) (narrow : IsNarrow have) (some : wanted ≡ Null → ⊥) where
  -- where a place passes on what it has
  fp-comes : (priority room : ℕ) → priority ≡ 0 → port ≡ 0 → room ≤ n → Closed room have wanted
      → Comes (record { config = configs.Fp; terms = terms.Prio priority }) haves n wanted
  fp-comes priority room first sole fits c =
      let place : Place = record { config = configs.Fp; terms = terms.Prio priority } in
      let valid = narrow-valid have narrow in
      record {
        lent = have;
        is = record { port = port; have = have; there = there; lends = (first, refl); some = not-null c some };
        valid = valid;
        room = room;
        fits = fits;
        closed = c;
        also = λ other vo soft on.
            before-also place haves n room port have there valid sole fits other vo (first, refl) on;
      }

  join-comes : (ports room : ℕ) → port < ports → room ≤ n → Closed room have wanted
      → Comes (record { config = configs.Join ports; terms = terms.Sole }) haves n wanted
  join-comes ports room within fits c =
      let place : Place = record { config = configs.Join ports; terms = terms.Sole } in
      let valid = narrow-valid have narrow in
      record {
        lent = have;
        is = record { port = port; have = have; there = there; lends = refl; some = not-null c some };
        valid = valid;
        room = room;
        fits = fits;
        closed = c;
        also = λ other vo soft on.
            before-also place haves n room port have there valid within fits other vo (soft, refl) on;
      }

  -- where it lends of every tick
  after-comes : (place : Place) (lent : Guarantee) (room : ℕ) → IsPort place.config port → IsValid lent
      → LendsByTerms place.config place.terms have lent → IsLentOf place.config place.terms have lent → room ≤ n
      → Closed room lent wanted → Comes place haves n wanted
  after-comes place lent room port_of vl lends is fits c = record {
    lent = lent;
    is = record { port = port; have = have; there = there; lends = is; some = not-null c some };
    valid = vl;
    room = room;
    fits = fits;
    closed = c;
    also = λ other vo soft on.
        after-also place haves n room port have there (narrow-valid have narrow) port_of fits lent vl lends other vo on;
  }

-- ---- where it lends a part of the best share

-- from every tick, a part of a share that is made for it: then a part of the whole share is no worse
pub record ByGoal (place : Place) (haves : List Guarantee) (n : ℕ) (wanted : Guarantee) : Type 0 where
  pub rate : Frac
  pub error : Frac
  pub is_share : wanted ≡ Psbe rate error
  pub lent : Guarantee
  pub is : IsLent place haves lent
  pub valid : IsValid lent
  pub itself : IsShareOf lent lent
  pub gives : Converts R1 lent wanted
  pub offers : IsOffered place haves n lent

module _ (config : Config) (its : Terms) (rc : ConfigInRange config) (rt : TermsInRange its) (of : LendsShares config)
    (haves : List Guarantee) (n port : ℕ) (port_of : IsPort config port) where
  abbrev sharing : Place
  sharing = record { config = config; terms = its }

  share-comes : (have wanted : Guarantee) → slice_get haves port ≡ Some have → IsNarrow have → IsValid wanted
      → (wanted ≡ Null → ⊥) → HitsByBest config its n have wanted → Comes sharing haves n wanted
  share-comes have wanted there narrow vw some hit =
      let is : IsShareOf have hit.best = best-share hit.is in
      let nb : IsNarrow hit.best = narrow-share have hit.best narrow is in
      let vl : IsValid hit.lent = lent-valid config its hit.best hit.lent rc rt nb hit.lends in
      let reached = found-reached (n - hit.count) hit.lent wanted vl vw hit.found in
      let first = best-leads hit.is in
      record {
        lent = hit.lent;
        is = record {
          port = port;
          have = have;
          there = there;
          lends = share-by (kind_of config) config its have hit.lent of (hit.best, is, hit.lends);
          some = not-null reached.2 some;
        };
        valid = vl;
        room = reached.0;
        fits = (let a = hit.fits in let b = reached.1 in omega arith);
        closed = reached.2;
        also = λ other vo soft on.
            let last = closed-leads reached.0 hit.lent other vl vo on in
            offered sharing haves other n hit.count reached.0 port have hit.best hit.lent first.0 last.0 there
            (record { from = narrow-valid hit.best nb; to = vl; port_of = port_of; lends = inl hit.lends }) first.1
            last.1 (let a = hit.fits in let b = reached.1 in omega arith);
      }

  goal-part : (weight total others : ℕ) (s d p e : Frac) → LendsPart config its weight total others
      → slice_get haves port ≡ Some All → 1 ≤ n → IsValid (Psbe s d) → IsValid (Psbe p e)
      → IsPart weight total others s d p e → ByGoal sharing haves n (Psbe p e)
  goal-part weight total others s d p e takes there some vs vp part =
      let one = quotient_of 1 1 (omega arith) in
      let zero = quotient_of 0 1 (omega arith) in
      let whole : Guarantee = Psbe one.0 zero.0 in
      let is : IsWholeShare whole = (one.1, zero.1) in
      let nw : IsNarrow whole = whole-narrow one.0 zero.0 is in
      let vw : IsValid whole = narrow-valid whole nw in
      let o = part-of weight total others one.0 zero.0 takes.size in
      let lent : Guarantee = Psbe o.0 o.1 in
      let lends : LendsByTerms config its whole lent = takes.lends whole lent o.2 in
      let vo : IsValid lent = lent-valid config its whole lent rc rt nw lends in
      let better : IsBetter (quad lent) (quad (Psbe p e)) =
      parts-better weight total others one.0 zero.0 o.0 o.1 s d p e takes.size vw vs o.2 part
      (whole-better one.0 zero.0 (quad (Psbe s d)) is (quad-ok (Psbe s d) vs)) in
      let step : Step = record { rule = R8; to = whole } in
      let first : LeadsTo 1 All whole (step ∷ []) = record {
        follows = (record { from = tt; to = vw; leads = tt }, tt);
        ends = refl;
        fits = omega arith;
      } in
      record {
        rate = p;
        error = e;
        is_share = refl;
        lent = lent;
        is = record {
          port = port;
          have = All;
          there = there;
          lends = share-by (kind_of config) config its All lent of (whole, is, lends);
          some = λ null. (let no : ⊥ = cc in no);
        };
        valid = vo;
        itself = refl;
        gives = better-converts o.0 o.1 p e vo vp better;
        offers = offered sharing haves lent n 1 0 port All whole lent (step ∷ []) [] there
            (record { from = vw; to = vo; port_of = port_of; lends = inl lends }) first (leads-none lent) (omega arith);
      }

  goal-comes : (weight total others : ℕ) (goal wanted : Guarantee) → LendsPart config its weight total others
      → slice_get haves port ≡ Some All → 1 ≤ n → IsValid goal → IsValid wanted
      → PartOf weight total others goal wanted → ByGoal sharing haves n wanted
  goal-comes weight total others (Psbe s d) (Psbe p e) takes there some vg vw part =
      goal-part weight total others s d p e takes there some vg vw part
  goal-comes weight total others goal wanted takes there some vg vw part = absurd part

  goal-hit : (have wanted : Guarantee) → slice_get haves port ≡ Some have → IsValid wanted
      → HitsByGoal config its n have wanted → ByGoal sharing haves n wanted
  goal-hit have wanted there vw hit =
      let takes = parted config its hit.goal wanted rc rt of hit.lends in
      goal-comes takes.weight takes.total takes.others hit.goal wanted takes.is
      (subst (λ v. slice_get haves port ≡ Some v) hit.whole there) hit.fits hit.valid vw
      (takes.is.part hit.goal wanted hit.lends)

-- ---- what is offered comes in one of these ways

module _ (haves : List Guarantee) (wanted : Guarantee) (d : Derivation) (n : ℕ) (narrow : IsNarrow wanted)
    (some : wanted ≡ Null → ⊥) (few : conversions d ≤ n) where
  by-all : (place : Place) → CanOffer place haves → IsDerivation place haves wanted d → LendsOfAll place.config
      → ((lent : Guarantee) → LendsByTerms place.config place.terms d.from lent
      → IsLentOf place.config place.terms d.from lent) → Comes place haves n wanted
  by-all place can is of same =
      let have = narrow-at haves d.sched.port d.from can.each_have is.starts in
      let hit = derived-after place haves wanted d n (can-search place haves wanted can narrow)
      (λ nothing. some (nothing-null place.config wanted nothing)) is few of in
      let vl = lent-valid place.config place.terms d.from hit.0 can.config can.terms have hit.1 in
      let reached = found-reached n hit.0 wanted vl (narrow-valid wanted narrow) hit.2 in
      after-comes haves wanted n d.sched.port d.from is.starts have some place hit.0 reached.0
      is.sched.through.port_of vl hit.1 (same hit.0 hit.1) reached.1 reached.2

  by-share : (config : Config) (its : Terms) → CanOffer (record { config = config; terms = its }) haves
      → IsDerivation (record { config = config; terms = its }) haves wanted d → LendsShares config
      → Comes (record { config = config; terms = its }) haves n wanted
      ⊎ ByGoal (record { config = config; terms = its }) haves n wanted
  by-share config its can is of =
      let place : Place = record { config = config; terms = its } in
      let port_of = is.sched.through.port_of in
      let have = narrow-at haves d.sched.port d.from can.each_have is.starts in
      let valid : IsValid wanted = narrow-valid wanted narrow in
      elim (derived-shares place haves wanted d n (can-search place haves wanted can narrow)
      (λ nothing. some (nothing-null config wanted nothing)) is few of) [
        | inl hit ↦
            inl (share-comes config its can.config can.terms of haves n d.sched.port port_of d.from wanted is.starts
            have valid some hit)
        | inr hit ↦
            inr (goal-hit config its can.config can.terms of haves n d.sched.port port_of d.from wanted is.starts
            valid hit)
      ]

  -- the parts of a derivation whose place is taken apart
  come : (config : Config) (its : Terms) → CanOffer (record { config = config; terms = its }) haves
      → IsDerivation (record { config = config; terms = its }) haves wanted d
      → Parts (record { config = config; terms = its }) d.from wanted n
      → Comes (record { config = config; terms = its }) haves n wanted
      ⊎ ByGoal (record { config = config; terms = its }) haves n wanted
  come configs.Fp (terms.Prio priority) can is p =
      inl (fp-comes haves wanted n d.sched.port d.from is.starts p.narrow some priority (p.i + p.j) p.lends.0
      is.sched.through.port_of p.fits
      (p.through (subst (λ v. Closed p.i d.from v) (sym p.lends.1) p.before)))
  come (configs.Join ports) terms.Sole can is p =
      inl (join-comes haves wanted n d.sched.port d.from is.starts p.narrow some ports (p.i + p.j)
      is.sched.through.port_of p.fits
      (p.through (subst (λ v. Closed p.i d.from v) (sym p.lends.1) p.before)))
  come configs.Cpu its can is p =
      inl (by-all (record { config = configs.Cpu; terms = its }) can is tt (λ lent lends. lends))
  come configs.Edf its can is p =
      inl (by-all (record { config = configs.Edf; terms = its }) can is tt (λ lent lends. lends))
  come (configs.Wheel frame) its can is p =
      inl (by-all (record { config = configs.Wheel frame; terms = its }) can is tt (λ lent lends. lends))
  come configs.Fp _ can is p = absurd p.lends
  come (configs.Join ports) _ can is p = absurd p.lends
  -- all others lend parts of shares
  come config its can is p = by-share config its can is tt

pub comes : (place : Place) (haves : List Guarantee) (n : ℕ) (wanted : Guarantee) → CanOffer place haves
    → IsNarrow wanted → (wanted ≡ Null → ⊥) → IsOffered place haves n wanted
    → Comes place haves n wanted ⊎ ByGoal place haves n wanted
comes place haves n wanted can narrow some offers =
    let d : Derivation = offers.derivation in
    come haves wanted d n narrow some offers.fits place.config place.terms can offers.derives
    (parts place haves wanted d n (can-search place haves wanted can narrow)
    (λ nothing. some (nothing-null place.config wanted nothing)) offers.derives offers.fits)

-- what is no share comes from what is lent
pub comes-on : (place : Place) (haves : List Guarantee) (n : ℕ) (wanted : Guarantee) → CanOffer place haves
    → IsNarrow wanted → (wanted ≡ Null → ⊥) → ((s d : Frac) → wanted ≡ Psbe s d → ⊥)
    → IsOffered place haves n wanted → Comes place haves n wanted
comes-on place haves n wanted can narrow some no_share offers =
    elim (comes place haves n wanted can narrow some offers) [
      | inl on ↦ on
      | inr goal ↦ absurd (no_share goal.rate goal.error goal.is_share)
    ]

-- The steps that lend a part of a share: of a weight, and of a turn.
use Rattle.std.proofs.Common.{◌≡◌, ℕ, ◌+◌, ◌*◌, ◌-◌, ◌≤◌, ap, arith, mul-le-mul}
use Rattle.std.specs.Prelude.{Option, Some, None, IfSome}
use Rattle.hls_frac.specs.declared.Frac.{Frac}
use Rattle.hls_chron.specs.declared.plain.Config.{Config}
use Rattle.hls_chron.specs.declared.plain.Config.TheVariants.{Rr}
use Rattle.hls_chron.specs.declared.plain.Sharing.{Sharing}
use Rattle.hls_chron.specs.declared.plain.Terms.{Terms}
use Rattle.hls_chron.specs.declared.plain.Terms.TheVariants.{Weight, Turn}
use Rattle.hls_chron.specs.Kinds.{by_shares}
use Rattle.hls_chron.specs.Ranges.{ConfigInRange, TermsInRange}
use Rattle.hls_chron.proofs.ConfigLaws.{by_kind}
use Rattle.hls_guarantee.specs.declared.Guarantee.{Guarantee}
use Rattle.hls_guarantee.specs.declared.Guarantee.TheVariants.{Psbe}
use Rattle.hls_guarantee.specs.Steps.{IsFairShare, IsTurnShare, LendsByTerms}
use Rattle.hls_search.specs.Inside.Parts.{IsPartSize, IsPart, PartOf}
use Rattle.hls_search.specs.Inside.Places.{LendsShares}

-- ---- of a weight

-- what the other seats add to the error, by total
abbrev pub others_of : (sharing : Sharing) (weight : ℕ) → ℕ
others_of sharing weight = ((sharing.most - 1) * weight + (sharing.total - weight)) * sharing.quantum

pub fair-size : (sharing : Sharing) (weight : ℕ) → ConfigInRange (by_shares sharing)
    → TermsInRange (Weight weight) → weight ≤ sharing.total → IsPartSize weight sharing.total (others_of sharing weight)
fair-size sharing weight config its fits =
    let few : sharing.most - 1 ≤ 19 = omega (arith, config.1.1) in
    let product : (sharing.most - 1) * weight ≤ 19 * 20 = mul-le-mul few its.1 in
    let each : (sharing.most - 1) * weight + (sharing.total - weight) ≤ 480 = omega (arith, product, config.0.1) in
    let turns : others_of sharing weight ≤ 480 * 100 = mul-le-mul each config.2.1 in
    record {
      some = its.0;
      light = its.1;
      fits = fits;
      small = config.0.1;
      few = omega (arith, turns);
    }

by_total : (sharing : Sharing) (weight others rest dn dd en ed : ℕ) → others + 1 ≡ sharing.most
    → weight + rest ≡ sharing.total
    → en * (dd * sharing.total)
    ≡ ((dn + others * sharing.quantum * dd) * weight + rest * sharing.quantum * dd) * ed
    → en * (sharing.total * dd) ≡ (weight * dn + others_of sharing weight * dd) * ed
by_total sharing weight others rest dn dd en ed seats weights error =
    let first : others ≡ sharing.most - 1 = omega arith in
    let second : rest ≡ sharing.total - weight = omega arith in
    omega (
      arith,
      error,
      ap (λ (n : ℕ). n * sharing.quantum * dd * weight * ed) first,
      ap (λ (n : ℕ). n * sharing.quantum * dd * ed) second,
    )

pub fair-part : (sharing : Sharing) (weight : ℕ) (s d p e : Frac) → IsFairShare sharing weight s d p e
    → IsPart weight sharing.total (others_of sharing weight) s d p e
fair-part sharing weight s d p e fair = record {
  rate = fair.rate;
  error = by_total sharing weight fair.others fair.rest d.num d.den e.num e.den fair.seats fair.weights fair.error;
}

by_parts : (sharing : Sharing) (weight dn dd en ed : ℕ)
    → en * (sharing.total * dd) ≡ (weight * dn + others_of sharing weight * dd) * ed
    → en * (dd * sharing.total)
    ≡ ((dn + (sharing.most - 1) * sharing.quantum * dd) * weight + (sharing.total - weight) * sharing.quantum * dd) * ed
by_parts sharing weight dn dd en ed error = omega (arith, error)

pub part-fair : (sharing : Sharing) (weight : ℕ) (s d p e : Frac) → 1 ≤ sharing.most → weight ≤ sharing.total
    → IsPart weight sharing.total (others_of sharing weight) s d p e → IsFairShare sharing weight s d p e
part-fair sharing weight s d p e some fits part = record {
  others = sharing.most - 1;
  rest = sharing.total - weight;
  seats = omega arith;
  weights = omega arith;
  rate = part.rate;
  error = by_parts sharing weight d.num d.den e.num e.den part.error;
}

-- ---- of a turn

pub turn-size : (quantum : ℕ) → ConfigInRange (Rr quantum) → IsPartSize 1 32 (31 * quantum)
turn-size quantum config = record {
  some = omega arith;
  light = omega arith;
  fits = omega arith;
  small = omega arith;
  few = omega (arith, config.1);
}

pub turn-part : (quantum : ℕ) (s d p e : Frac) → IsTurnShare quantum s d p e → IsPart 1 32 (31 * quantum) s d p e
turn-part quantum s d p e turn = record {
  rate = omega (arith, turn.rate);
  error = omega (arith, turn.error);
}

pub part-turn : (quantum : ℕ) (s d p e : Frac) → IsPart 1 32 (31 * quantum) s d p e → IsTurnShare quantum s d p e
part-turn quantum s d p e part = record {
  rate = omega (arith, part.rate);
  error = omega (arith, part.error);
}

-- ---- of either

-- the step on these terms lends such a part of a share, and nothing else
pub record LendsPart (config : Config) (its : Terms) (weight total others : ℕ) : Type 0 where
  pub size : IsPartSize weight total others
  pub part : (g h : Guarantee) → LendsByTerms config its g h → PartOf weight total others g h
  pub lends : (g h : Guarantee) → PartOf weight total others g h → LendsByTerms config its g h

-- of what such a part is found, it is lent
pub part-found : (config : Config) (its : Terms) (weight total others : ℕ) (found : Option Guarantee) (h : Guarantee)
    → LendsPart config its weight total others → IfSome found (λ g. PartOf weight total others g h)
    → IfSome found (λ g. LendsByTerms config its g h)
part-found config its weight total others (Some g) h is part = is.lends g h part
part-found config its weight total others None h is part = tt

pub record Parted (config : Config) (its : Terms) : Type 0 where
  pub weight : ℕ
  pub total : ℕ
  pub others : ℕ
  pub is : LendsPart config its weight total others

fair_to : (sharing : Sharing) (weight : ℕ) (g h : Guarantee) → LendsByTerms (by_shares sharing) (Weight weight) g h
    → PartOf weight sharing.total (others_of sharing weight) g h
fair_to sharing weight (Psbe s d) (Psbe p e) lends = fair-part sharing weight s d p e lends
fair_to sharing weight g h lends = absurd lends

fair_from : (sharing : Sharing) (weight : ℕ) (g h : Guarantee) → 1 ≤ sharing.most → weight ≤ sharing.total
    → PartOf weight sharing.total (others_of sharing weight) g h
    → LendsByTerms (by_shares sharing) (Weight weight) g h
fair_from sharing weight (Psbe s d) (Psbe p e) some fits part =
    part-fair sharing weight s d p e some fits part
fair_from sharing weight g h some fits part = absurd part

pub fair-lends : (sharing : Sharing) (weight : ℕ) → ConfigInRange (by_shares sharing) → TermsInRange (Weight weight)
    → weight ≤ sharing.total
    → LendsPart (by_shares sharing) (Weight weight) weight sharing.total (others_of sharing weight)
fair-lends sharing weight config its fits = record {
  size = fair-size sharing weight config its fits;
  part = fair_to sharing weight;
  lends = λ g h part. fair_from sharing weight g h config.1.0 fits part;
}

turn_to : (quantum : ℕ) (g h : Guarantee) → LendsByTerms (Rr quantum) Turn g h → PartOf 1 32 (31 * quantum) g h
turn_to quantum (Psbe s d) (Psbe p e) lends = turn-part quantum s d p e lends
turn_to quantum g h lends = absurd lends

turn_from : (quantum : ℕ) (g h : Guarantee) → PartOf 1 32 (31 * quantum) g h → LendsByTerms (Rr quantum) Turn g h
turn_from quantum (Psbe s d) (Psbe p e) part = part-turn quantum s d p e part
turn_from quantum g h part = absurd part

pub turn-lends : (quantum : ℕ) → ConfigInRange (Rr quantum) → LendsPart (Rr quantum) Turn 1 32 (31 * quantum)
turn-lends quantum config = record {
  size = turn-size quantum config;
  part = turn_to quantum;
  lends = turn_from quantum;
}

-- terms on which such a place lends anything lend a part
fair-parted : (sharing : Sharing) (its : Terms) (g h : Guarantee) → ConfigInRange (by_shares sharing)
    → TermsInRange its → LendsByTerms (by_shares sharing) its g h → Parted (by_shares sharing) its
fair-parted sharing (Weight weight) (Psbe s d) (Psbe p e) rc rt lends = record {
  weight = weight;
  total = sharing.total;
  others = others_of sharing weight;
  is = fair-lends sharing weight rc rt (let sum = lends.weights in omega arith);
}
fair-parted sharing its g h rc rt lends = absurd lends

turn-parted : (quantum : ℕ) (its : Terms) (g h : Guarantee) → ConfigInRange (Rr quantum)
    → LendsByTerms (Rr quantum) its g h → Parted (Rr quantum) its
turn-parted quantum Turn g h rc lends = record {
  weight = 1;
  total = 32;
  others = 31 * quantum;
  is = turn-lends quantum rc;
}
turn-parted quantum its g h rc lends = absurd lends

pub parted : (config : Config) (its : Terms) (g h : Guarantee) → ConfigInRange config → TermsInRange its
    → LendsShares config → LendsByTerms config its g h → Parted config its
parted = by_kind (λ config. (its : Terms) (g h : Guarantee) → ConfigInRange config → TermsInRange its
    → LendsShares config → LendsByTerms config its g h → Parted config its)
    (λ its g h rc rt of lends. absurd of) (λ its g h rc rt of lends. absurd of) (λ its g h rc rt of lends. absurd of)
    (λ sharing its g h rc rt of lends. fair-parted sharing its g h rc rt lends)
    (λ quantum its g h rc rt of lends. turn-parted quantum its g h rc lends)
    (λ frame its g h rc rt of lends. absurd of) (λ ports its g h rc rt of lends. absurd of)

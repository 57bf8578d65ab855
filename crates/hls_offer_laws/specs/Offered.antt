-- What is offered at a place, and from what it follows.
use Rattle.std.specs.Prelude.{◌≡◌, ◌≢◌, ℕ, ◌≤◌, List, length, All as Each, Some, slice_get}
use Rattle.hls_chron.specs.declared.plain.Config.{Config}
use Rattle.hls_chron.specs.declared.plain.Kind.{Kind}
use Rattle.hls_chron.specs.declared.plain.Kind.TheVariants as kinds
use Rattle.hls_chron.specs.declared.plain.Terms.{Terms}
use Rattle.hls_chron.specs.declared.plain.Terms.TheVariants as terms
use Rattle.hls_chron.specs.Kinds.{kind_of, port_count}
use Rattle.hls_chron.specs.Ranges.{ConfigInRange, TermsInRange}
use Rattle.hls_guarantee.specs.declared.Guarantee.{Guarantee}
use Rattle.hls_guarantee.specs.declared.Guarantee.TheVariants.{All, Null, Resb, Resc, Psbe}
use Rattle.hls_guarantee.specs.declared.rule.RuleName.TheVariants.{R4, R5}
use Rattle.hls_guarantee.specs.Conversions.{Converts}
use Rattle.hls_guarantee.specs.Limits.{IsNarrow}
use Rattle.hls_guarantee.specs.Steps.{LendsByTerms}
use Rattle.hls_derive.specs.declared.derivation.Place.{Place}
use Rattle.hls_derive.specs.declared.derivation.Derivation.{Derivation}
use Rattle.hls_derive.specs.Derivation.{conversions}
use Rattle.hls_derive.specs.Derives.{IsDerivation, IsWholeShare}

-- numbers in their ranges, and a guarantee for each port within the limits of a scenario
pub record CanOffer (place : Place) (haves : List Guarantee) : Type 0 where
  pub config : ConfigInRange place.config
  pub terms : TermsInRange place.terms
  pub ports : length haves ≡ port_count place.config
  pub each_have : Each IsNarrow haves

-- there is a derivation of at most so many conversions
pub record IsOffered (place : Place) (haves : List Guarantee) (depth : ℕ) (wanted : Guarantee) : Type 0 where
  pub derivation : Derivation
  pub derives : IsDerivation place haves wanted derivation
  pub fits : conversions derivation ≤ depth

-- the share of a guarantee: what a single conversion, or none, makes of it
abbrev pub IsShareOf : Guarantee → (share : Guarantee) → Type 0
IsShareOf All share = IsWholeShare share
IsShareOf Null share = ⊥
IsShareOf (Resb hard x y) share = Converts R4 (Resb hard x y) share
IsShareOf (Resc hard x y) share = Converts R5 (Resc hard x y) share
IsShareOf (Psbe s d) share = share ≡ Psbe s d

-- what the terms lend of the share of a guarantee
abbrev pub LendsOfShare : Config → Terms → (have lent : Guarantee) → Type 0
LendsOfShare config its have lent =
    (share : Guarantee) × IsShareOf have share × LendsByTerms config its share lent

-- what the terms lend of a guarantee, for offers, by the kind of the configuration: at a join what the port has, even
-- if it is hard, since conversions may make it soft; at fair queueing and in a round a part of its share
abbrev pub IsLentAt : Kind → Config → Terms → (have lent : Guarantee) → Type 0
IsLentAt kinds.Join config terms.Sole have lent = lent ≡ have
IsLentAt kinds.Sfq config its have lent = LendsOfShare config its have lent
IsLentAt kinds.Rr config its have lent = LendsOfShare config its have lent
IsLentAt _ config its have lent = LendsByTerms config its have lent

abbrev pub IsLentOf : Config → Terms → (have lent : Guarantee) → Type 0
IsLentOf config its have lent = IsLentAt (kind_of config) config its have lent

-- what the place lends through one of its ports, if it is more than nothing
pub record IsLent (place : Place) (haves : List Guarantee) (lent : Guarantee) : Type 0 where
  pub port : ℕ
  pub have : Guarantee
  pub there : slice_get haves port ≡ Some have
  pub lends : IsLentOf place.config place.terms have lent
  pub some : lent ≢ Null

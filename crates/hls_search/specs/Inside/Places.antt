-- What the search tries at a place.
use Rattle.std.specs.Prelude.{◌≡◌, ℕ, ◌≤◌, ◌-◌, Bool, List}
use Rattle.hls_frac.specs.declared.Frac.{Frac}
use Rattle.hls_chron.specs.declared.plain.Config.{Config}
use Rattle.hls_chron.specs.declared.plain.Kind.{Kind}
use Rattle.hls_chron.specs.declared.plain.Kind.TheVariants as kinds
use Rattle.hls_chron.specs.Kinds.{kind_of}
use Rattle.hls_chron.specs.declared.plain.Terms.{Terms}
use Rattle.hls_guarantee.specs.declared.Guarantee.{Guarantee}
use Rattle.hls_guarantee.specs.declared.Guarantee.TheVariants.{All, Resb, Resc, Psbe}
use Rattle.hls_guarantee.specs.declared.rule.RuleName.{RuleName}
use Rattle.hls_guarantee.specs.declared.rule.RuleName.TheVariants.{R4, R5, R8}
use Rattle.hls_guarantee.specs.Conversions.{Converts}
use Rattle.hls_guarantee.specs.Limits.{IsValid}
use Rattle.hls_guarantee.specs.Steps.{LendsByTerms}
use Rattle.hls_derive.specs.declared.derivation.Derivation.{Derivation}
use Rattle.hls_derive.specs.Derivation.{conversions}
use Rattle.hls_derive.specs.Derives.{IsDerivation, IsWholeShare}
use Rattle.hls_derive.specs.declared.derivation.Place.{Place}
use Rattle.hls_search_laws.specs.Words.{IsFound}

abbrev pub PassesOnOf : Kind → Type 0
PassesOnOf kinds.Fp = Unit {0}
PassesOnOf kinds.Join = Unit {0}
PassesOnOf _ = ⊥

abbrev pub LendsSharesOf : Kind → Type 0
LendsSharesOf kinds.Sfq = Unit {0}
LendsSharesOf kinds.Rr = Unit {0}
LendsSharesOf _ = ⊥

abbrev pub LendsOfAllOf : Kind → Type 0
LendsOfAllOf kinds.Cpu = Unit {0}
LendsOfAllOf kinds.Edf = Unit {0}
LendsOfAllOf kinds.Wheel = Unit {0}
LendsOfAllOf _ = ⊥

-- what such a place lends is the same as what it has
abbrev pub PassesOn : Config → Type 0
PassesOn config = PassesOnOf (kind_of config)

-- such a place lends a share of a share
abbrev pub LendsShares : Config → Type 0
LendsShares config = LendsSharesOf (kind_of config)

-- such a place lends of every tick alone
abbrev pub LendsOfAll : Config → Type 0
LendsOfAll config = LendsOfAllOf (kind_of config)

-- the best share of a guarantee, and the conversions that it takes
pub data IsBestShare : Guarantee → ℕ → Guarantee → Type 0 where
  itself : {s d : Frac} → IsBestShare (Psbe s d) 0 (Psbe s d)
  of_blocks : {hard : Bool} {x y : ℕ} {h : Guarantee} → Converts R4 (Resb hard x y) h
      → IsBestShare (Resb hard x y) 1 h
  of_windows : {hard : Bool} {x y : ℕ} {h : Guarantee} → Converts R5 (Resc hard x y) h
      → IsBestShare (Resc hard x y) 1 h
  of_all : {h : Guarantee} → IsWholeShare h → IsBestShare All 1 h

-- the rule that makes a share of such a guarantee
abbrev pub ToShare : RuleName → Guarantee → Type 0
ToShare R4 (Resb hard x y) = Unit {0}
ToShare R5 (Resc hard x y) = Unit {0}
ToShare R8 All = Unit {0}
ToShare _ _ = ⊥

-- from the best share of what is there, its step, and then a word of the conversions that are left
pub record HitsByBest (config : Config) (terms : Terms) (n : ℕ) (have want : Guarantee) : Type 0 where
  pub count : ℕ
  pub best : Guarantee
  pub lent : Guarantee
  pub is : IsBestShare have count best
  pub fits : count ≤ n
  pub lends : LendsByTerms config terms best lent
  pub found : IsFound (n - count) lent want

-- of every tick, a share of which the place lends what is wanted
pub record HitsByGoal (config : Config) (terms : Terms) (n : ℕ) (have want : Guarantee) : Type 0 where
  pub goal : Guarantee
  pub whole : have ≡ All
  pub fits : 1 ≤ n
  pub valid : IsValid goal
  pub lends : LendsByTerms config terms goal want

-- no derivation at the place has at most n conversions
abbrev pub NoneWithin : Place → List Guarantee → Guarantee → ℕ → Type 0
NoneWithin place haves want n = (d : Derivation) → IsDerivation place haves want d → conversions d ≤ n → ⊥

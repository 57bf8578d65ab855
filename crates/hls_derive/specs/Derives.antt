-- How a guarantee is derived at a place, from what its ports have.
use Rattle.std.specs.Prelude.{◌≡◌, List, [], ◌∷◌, Some, slice_get}
use Rattle.hls_frac.specs.Frac.{IsQuotient}
use Rattle.hls_chron.specs.Kinds.{kind_of}
use Rattle.hls_guarantee.specs.declared.Guarantee.{Guarantee}
use Rattle.hls_guarantee.specs.declared.Guarantee.TheVariants.{Psbe}
use Rattle.hls_guarantee.specs.Conversions.{Converts}
use Rattle.hls_guarantee.specs.Steps.{Lends}
use Rattle.hls_derive.specs.declared.derivation.Place.{Place}
use Rattle.hls_derive.specs.declared.derivation.Step.{Step}
use Rattle.hls_derive.specs.declared.derivation.Derivation.{Derivation}
use Rattle.hls_derive.specs.Derivation.{end_of, last_of}

-- each step is a conversion of what the one before it reached, the first of g
abbrev pub FollowsBy : Guarantee → List Step → Type 0
FollowsBy g [] = Unit {0}
FollowsBy g (s ∷ steps) = Converts s.rule g s.to × FollowsBy s.to steps

-- From what the port of the scheduler step has, by conversions, the step of the place's kind, and
-- conversions, to want. Each guarantee is valid: conversions and scheduler steps are of valid ones alone.
pub record IsDerivation (place : Place) (haves : List Guarantee) (want : Guarantee) (d : Derivation)
    : Type 0 where
  pub starts : slice_get haves d.sched.port ≡ Some d.from
  pub before : FollowsBy d.from d.before
  pub kind : d.sched.kind ≡ kind_of place.config
  pub sched : Lends place.config place.terms haves d.sched.port (end_of d.from d.before) d.sched.to
  pub after : FollowsBy d.sched.to d.after
  pub ends : last_of d ≡ want

-- every tick as a share: the rate 1 and the error 0
abbrev pub IsWholeShare : Guarantee → Type 0
IsWholeShare (Psbe s d) = IsQuotient s 1 1 × IsQuotient d 0 1
IsWholeShare _ = ⊥

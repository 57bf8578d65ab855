-- What has a derivation follows.
use Rattle.std.proofs.Common.{List, [], ◌∷◌, subst}
use Rattle.hls_guarantee.specs.declared.Guarantee.{Guarantee}
use Rattle.hls_guarantee.proofs.Conversions.{converts-supplies}
use Rattle.hls_derive.specs.declared.derivation.Place.{Place}
use Rattle.hls_derive.specs.declared.derivation.Step.{Step}
use Rattle.hls_derive.specs.declared.derivation.Derivation.{Derivation}
use Rattle.hls_derive.specs.Derivation.{end_of}
use Rattle.hls_derive.specs.Derives.{FollowsBy, IsDerivation}
use Rattle.hls_machine.specs.Derived.{Yields, Follows}

yields-by : (g : Guarantee) (steps : List Step) → FollowsBy g steps → Yields g (end_of g steps)
yields-by g [] by served asks lo hi supply = supply
yields-by g (s ∷ steps) by served asks lo hi supply =
    yields-by s.to steps by.1 served asks lo hi (converts-supplies s.rule g s.to served asks lo hi by.0 supply)

pub derivation_follows : (place : Place) (haves : List Guarantee) (want : Guarantee) (d : Derivation)
    → IsDerivation place haves want d → Follows place.config place.terms haves want
derivation_follows place haves want d is = record {
  port = d.sched.port;
  have = d.from;
  is_have = is.starts;
  offered = end_of d.from d.before;
  lent = d.sched.to;
  first = yields-by d.from d.before is.before;
  through = is.sched.through;
  last = subst (λ g. Yields d.sched.to g) is.ends (yields-by d.sched.to d.after is.after);
}

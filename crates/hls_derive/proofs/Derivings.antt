-- What steps that follow one another reach.
use Rattle.std.proofs.Common.{List, [], ◌∷◌}
use Rattle.std.specs.List.{AllByRecursion}
use Rattle.std.proofs.lemmas.List.Elements.{All-from_recursion}
use Rattle.hls_guarantee.specs.declared.Guarantee.{Guarantee}
use Rattle.hls_guarantee.specs.Limits.{IsValid}
use Rattle.hls_derive.specs.declared.derivation.Step.{Step}
use Rattle.hls_derive.specs.Derivation.{end_of, AreValid}
use Rattle.hls_derive.specs.Derives.{FollowsBy}

-- what is reached is valid where the beginning is, and the other way round
steps_valid : (g : Guarantee) (steps : List Step) → FollowsBy g steps
    → AllByRecursion (λ (s : Step). IsValid s.to) steps
steps_valid g [] follow = tt
steps_valid g (s ∷ steps) follow = (follow.0.to, steps_valid s.to steps follow.1)

pub follow-valid : (g : Guarantee) (steps : List Step) → FollowsBy g steps → AreValid steps
follow-valid g steps follow = All-from_recursion _ steps (steps_valid g steps follow)

pub follow-end : (g : Guarantee) (steps : List Step) → FollowsBy g steps → IsValid g
    → IsValid (end_of g steps)
follow-end g [] follow valid = valid
follow-end g (s ∷ steps) follow valid = follow-end s.to steps follow.1 follow.0.to

pub follow-start : (g : Guarantee) (steps : List Step) → FollowsBy g steps → IsValid (end_of g steps)
    → IsValid g
follow-start g [] follow valid = valid
follow-start g (s ∷ steps) follow valid = follow.0.from

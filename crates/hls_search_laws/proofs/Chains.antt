-- Chains by rules and the steps of derivations are the same.
use Rattle.std.proofs.Common.{◌≡◌, List, [], ◌∷◌, length, refl, subst, ap}
use Rattle.std.proofs.lemmas.List.{length-map}
use Rattle.hls_guarantee.specs.declared.Guarantee.{Guarantee}
use Rattle.hls_guarantee.specs.declared.rule.RuleName.{RuleName}
use Rattle.hls_guarantee.specs.Limits.{IsValid}
use Rattle.hls_derive.specs.declared.derivation.Step.{Step}
use Rattle.hls_derive.specs.Derivation.{end_of}
use Rattle.hls_derive.specs.Derives.{FollowsBy}
use Rattle.hls_search_laws.specs.Words.{Reaches, rules_of}

pub steps-reach : (g : Guarantee) (steps : List Step) → FollowsBy g steps → Reaches (rules_of steps) g (end_of g steps)
steps-reach g [] follow = refl
steps-reach g (s ∷ steps) follow = (s.to, follow.0, steps-reach s.to steps follow.1)

pub reach-steps : (chain : List RuleName) (g h : Guarantee) → Reaches chain g h
    → (steps : List Step) × (rules_of steps ≡ chain) × FollowsBy g steps × (end_of g steps ≡ h)
reach-steps [] g h r = ([], refl, tt, r)
reach-steps (rule ∷ rest) g h r =
    let step : Step = record { rule = rule; to = r.0 } in
    let on = reach-steps rest r.0 h r.2 in
    (step ∷ on.0, ap (λ (v : List RuleName). rule ∷ v) on.1, (r.1, on.2), on.3)

pub as-long : (steps : List Step) → length (rules_of steps) ≡ length steps
as-long steps = length-map steps (λ (s : Step). s.rule)

pub reach-end : (chain : List RuleName) (g h : Guarantee) → IsValid g → Reaches chain g h → IsValid h
reach-end [] g h valid r = subst IsValid r valid
reach-end (rule ∷ rest) g h valid r = reach-end rest r.0 h r.1.to r.2

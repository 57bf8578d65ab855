use Rattle.std.proofs.Common.{subst, sym}
use Rattle.hls_scenario.specs.declared.scenario.Scenario.{Scenario}
use Rattle.hls_scenario.specs.Grammar.{IsScenario}
use Rattle.hls_gen.proofs.Within.{generated_within}
use Rattle.hls_gen.proofs.generating.generate.Goals as goal

pub returns-in-Ok-clause-within : goal.returns-in-Ok-clause-within
returns-in-Ok-clause-within c =
    subst (λ (s : Scenario). IsScenario s) (sym c.in-Ok.ensures) (generated_within c.args.number)

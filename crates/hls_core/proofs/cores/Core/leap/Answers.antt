use Rattle.std.proofs.Common.{ap, subst}
use Rattle.hls_scenario.specs.declared.scenario.Scenario.{Scenario}
use Rattle.hls_machine.specs.Hierarchy.{start}
use Rattle.hls_machine.specs.Steps.{state}
use Rattle.hls_core.specs.Leaps.{IsLeapTo}
use Rattle.hls_core.proofs.cores.Core.leap.Goals as goal

pub returns-clause-leap : goal.returns-clause-leap
returns-clause-leap g c = λ s given boxes is.
    subst (λ end. IsLeapTo s c.args.self.now.agenda end (state start is.steps) c.leap_to.result)
    (ap (λ (x : Scenario). x.horizon) is.scenario) (c.leap_to.ensures.leap s given boxes is)

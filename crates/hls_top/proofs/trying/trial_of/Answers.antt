use Rattle.std.proofs.Common.{subst}
use Rattle.hls_legal.specs.Legal.{IsLegalReport}
use Rattle.hls_manager.specs.Outcomes.{boxes_in}
use Rattle.hls_top.proofs.Audited.{trial_is}
use Rattle.hls_top.proofs.trying.trial_of.Goals as goal

pub returns : goal.returns
returns g c =
    trial_is c.args.number (boxes_in c.args.kit) c.in_ok-summary.field-0.items c.in_ok-report.report
    c.in_ok-audit.audit
    (subst (λ s. IsLegalReport s 3 (boxes_in c.args.kit) c.in_ok-report.report) c.in_ok-scenario.ensures.generated
    c.in_ok-report.ensures) c.in_ok-audit.ensures c.in_ok-summary.ensures

use Rattle.std.proofs.Common.{◌∙◌}
use Rattle.hls_report.proofs.CommandSteps.{refusal_read}
use Rattle.hls_report.proofs.command_reading.refused.Goals as goal

pub returns-clause-exact : goal.returns-clause-exact
returns-clause-exact c = λ r is e.
    c.refusal.ensures.read ∙ refusal_read c.args.line.now c.in_ok-after.field-0.now r is e
    c.in_ok-after.ensures.read

use Rattle.std.proofs.Common.{◌∙◌}
use Rattle.hls_report.proofs.AccountSteps.{idle_read}
use Rattle.hls_report.proofs.account_reading.idle_of.Goals as goal

pub returns-clause-exact : goal.returns-clause-exact
returns-clause-exact c = λ n lt e.
    c.count.ensures.read ∙ idle_read c.args.line.now c.in_ok-after.field-0.now n lt e
    c.in_ok-after.ensures.read

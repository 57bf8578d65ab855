use Rattle.std.proofs.Common.{refl}
use Rattle.hls_report.proofs.Reports.{read_as, bad_at}
use Rattle.hls_report.proofs.report_reading.read_report.Goals as goal

pub returns-clause-exact : goal.returns-clause-exact
returns-clause-exact c = λ s is.
    read_as (record { rest = c.args.text; count = 0 }) s c.report.result c.report.ensures.ok
    c.report.ensures.err is

pub returns-clause-bad : goal.returns-clause-bad
returns-clause-bad c =
    bad_at (record { rest = c.args.text; count = 0 }) c.report.result refl c.report.ensures.err

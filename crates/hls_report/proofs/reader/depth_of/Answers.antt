use Rattle.std.proofs.Common.{◌∙◌}
use Rattle.hls_report.proofs.Heads.{depth_read}
use Rattle.hls_report.proofs.reader.depth_of.Goals as goal

pub returns-clause-exact : goal.returns-clause-exact
returns-clause-exact c = λ n le e.
    c.digit.ensures.read ∙ depth_read c.args.line.now c.in_ok-after.field-0.now n le e
    c.in_ok-after.ensures.read

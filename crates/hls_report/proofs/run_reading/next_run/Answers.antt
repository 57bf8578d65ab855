use Rattle.std.proofs.Common.{ap, ◌∙◌}
use Rattle.hls_report.specs.declared.fault.ReportFault.TheVariants as faults
use Rattle.hls_report.proofs.RunSteps.{run_read, no_run, no_line}
use Rattle.hls_report.proofs.run_reading.next_run.Goals as goal

pub returns-in_default-clause-err : goal.returns-in_default-clause-err
returns-in_default-clause-err c =
    no_line c.args.horizon c.args.from c.args.last.now c.args.known.now.names.keys c.args.lines.now c.fault.result
    c.requires.left c.requires.known c.in_default.ensures.line
    (c.fault.ensures ∙ ap faults.At c.next.ensures.count)

pub returns-in-Some-2-clause-ok : goal.returns-in-Some-2-clause-ok
returns-in-Some-2-clause-ok c =
    run_read c.args.horizon c.args.from c.args.last.now c.args.known.now.names.keys c.told_run.new.known.names.keys
    c.in-Some.line.now c.in-Some-2.told.words.now c.in-Some-2.told.run c.args.lines.now c.next.new.self
    c.requires.few c.requires.known c.in-Some.ensures.line.0 c.in-Some.ensures.line.1 c.next.ensures.count
    (rw c.in-Some-2.is at c.in_ok-told.ensures.told)

pub returns-in-None-clause-err : goal.returns-in-None-clause-err
returns-in-None-clause-err c =
    no_run c.args.horizon c.args.from c.args.last.now c.args.known.now.names.keys c.in-Some.line.now
    c.next.new.self.rest.now c.args.lines.now c.fault-in-None.result c.requires.left c.requires.known
    c.in-Some.ensures.line.0 c.in-Some.ensures.line.1
    (c.fault-in-None.ensures ∙ ap faults.At c.next.ensures.count) (rw c.in-None.is at c.in_ok-told.ensures.told)

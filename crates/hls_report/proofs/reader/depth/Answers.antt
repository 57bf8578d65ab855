use Rattle.std.proofs.Common.{◌∷◌, ◌++◌, ap, ◌∙◌, subst}
use Rattle.hls_report.specs.declared.fault.ReportFault.TheVariants as faults
use Rattle.hls_report_text.specs.WellFormed.{IsOneLine}
use Rattle.hls_report.specs.Inside.Rests.{DepthRest, CommandRest}
use Rattle.hls_report.proofs.Heads.{no_depth}
use Rattle.hls_report.proofs.LineReadings.{none_some}
use Rattle.hls_report.proofs.RestLaws.{no_last_depth, some_depth, some_command, depth_onto, depth_off}
use Rattle.hls_report.proofs.RestLaws.{depth_line}
use Rattle.hls_report.proofs.Stuck.{pass_line, fail_line, fail_end}
use Rattle.hls_report.proofs.reader.depth.Goals as goal

pub returns-in_default-clause-err : goal.returns-in_default-clause-err
returns-in_default-clause-err c =
    fail_end (DepthRest c.args.version c.args.horizon) c.args.lines.now (some_depth c.args.version c.args.horizon).0
    c.fault.result
    (some_depth c.args.version c.args.horizon).1 c.in_default.ensures.line
    (c.fault.ensures ∙ ap faults.At c.next.ensures.count) (no_last_depth c.args.version c.args.horizon)

pub returns-in-Some-depth_of-clause-ok : goal.returns-in-Some-depth_of-clause-ok
returns-in-Some-depth_of-clause-ok c =
    let n = c.in-Some-depth_of.n in
    let found = c.in-Some-depth_of.ensures.found in
    let d = some_command c.args.version c.args.horizon 0 65536 in (
      found.0,
      pass_line (DepthRest c.args.version c.args.horizon) (CommandRest c.args.version c.args.horizon 0 65536)
          (depth_line n)
          c.args.lines.now c.next.new.self d.0
          (subst IsOneLine found.1 c.in-Some.ensures.line.0)
          (c.in-Some.ensures.line.1 ∙ ap (λ t. t ++ (10 ∷ c.next.new.self.rest.now)) found.1)
          c.next.ensures.count d.1 (λ ls r. depth_onto c.args.version c.args.horizon n ls found.0 r)
          (λ ls r. depth_off c.args.version c.args.horizon n ls r),
    )

pub returns-in-None-clause-err : goal.returns-in-None-clause-err
returns-in-None-clause-err c =
    fail_line (DepthRest c.args.version c.args.horizon) c.in-Some.line.now c.next.new.self.rest.now c.args.lines.now
    (some_depth c.args.version c.args.horizon).0
    c.fault-in-None.result (some_depth c.args.version c.args.horizon).1 c.in-Some.ensures.line.0
    c.in-Some.ensures.line.1
    (λ ls r. no_depth c.args.version c.args.horizon c.in-Some.line.now ls
    (λ n is e. none_some n (c.in-None.ensures.exact n is e)) r)
    (c.fault-in-None.ensures ∙ ap faults.At c.next.ensures.count)

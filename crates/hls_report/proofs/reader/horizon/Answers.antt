use Rattle.std.proofs.Common.{◌∷◌, ◌++◌, ap, ◌∙◌, subst}
use Rattle.hls_report.specs.declared.fault.ReportFault.TheVariants as faults
use Rattle.hls_report_text.specs.WellFormed.{IsOneLine}
use Rattle.hls_report.specs.Inside.Rests.{HorizonRest, DepthRest}
use Rattle.hls_report.proofs.Heads.{no_horizon}
use Rattle.hls_report.proofs.LineReadings.{none_some}
use Rattle.hls_report.proofs.RestLaws.{no_last_horizon, some_horizon, some_depth, horizon_onto}
use Rattle.hls_report.proofs.RestLaws.{horizon_off, horizon_line}
use Rattle.hls_report.proofs.Stuck.{pass_line, fail_line, fail_end}
use Rattle.hls_report.proofs.reader.horizon.Goals as goal

pub returns-in_default-clause-err : goal.returns-in_default-clause-err
returns-in_default-clause-err c =
    fail_end (HorizonRest c.args.version) c.args.lines.now (some_horizon c.args.version).0 c.fault.result
    (some_horizon c.args.version).1
    c.in_default.ensures.line
    (c.fault.ensures ∙ ap faults.At c.next.ensures.count) (no_last_horizon c.args.version)

pub returns-in-Some-horizon_of-clause-ok : goal.returns-in-Some-horizon_of-clause-ok
returns-in-Some-horizon_of-clause-ok c =
    let n = c.in-Some-horizon_of.n in
    let found = c.in-Some-horizon_of.ensures.found in
    let d = some_depth c.args.version n in (
      found.0,
      pass_line (HorizonRest c.args.version) (DepthRest c.args.version n) (horizon_line n) c.args.lines.now
          c.next.new.self d.0
          (subst IsOneLine found.1 c.in-Some.ensures.line.0)
          (c.in-Some.ensures.line.1 ∙ ap (λ t. t ++ (10 ∷ c.next.new.self.rest.now)) found.1)
          c.next.ensures.count d.1 (λ ls r. horizon_onto c.args.version n ls found.0 r)
          (λ ls r. horizon_off c.args.version n ls found.0 r),
    )

pub returns-in-None-clause-err : goal.returns-in-None-clause-err
returns-in-None-clause-err c =
    fail_line (HorizonRest c.args.version) c.in-Some.line.now c.next.new.self.rest.now c.args.lines.now
    (some_horizon c.args.version).0
    c.fault-in-None.result (some_horizon c.args.version).1 c.in-Some.ensures.line.0 c.in-Some.ensures.line.1
    (λ ls r. no_horizon c.args.version c.in-Some.line.now ls (λ n is e. none_some n (c.in-None.ensures.exact n is e)) r)
    (c.fault-in-None.ensures ∙ ap faults.At c.next.ensures.count)

use Rattle.std.proofs.Common.{◌∷◌, ◌++◌, ap, ◌∙◌, subst}
use Rattle.hls_report.specs.declared.fault.ReportFault.TheVariants as faults
use Rattle.hls_report_text.specs.WellFormed.{IsOneLine}
use Rattle.hls_report.specs.Inside.Rests.{HeaderRest, HorizonRest}
use Rattle.hls_report.proofs.Heads.{no_header}
use Rattle.hls_report.proofs.LineReadings.{none_some}
use Rattle.hls_report.proofs.RestLaws.{no_last_header, some_header, some_horizon, header_onto, header_off}
use Rattle.hls_report.proofs.RestLaws.{header_line}
use Rattle.hls_report.proofs.Stuck.{pass_line, fail_line, fail_end}
use Rattle.hls_report.proofs.reader.header.Goals as goal

pub returns-in_default-clause-err : goal.returns-in_default-clause-err
returns-in_default-clause-err c =
    fail_end HeaderRest c.args.lines.now some_header.0 c.fault.result some_header.1 c.in_default.ensures.line
    (c.fault.ensures ∙ ap faults.At c.next.ensures.count) no_last_header

pub returns-in-Some-version_of-clause-ok : goal.returns-in-Some-version_of-clause-ok
returns-in-Some-version_of-clause-ok c =
    let v = c.in-Some-version_of.v in
    let found = c.in-Some-version_of.ensures.found in
    let h = some_horizon v in (
      found.0,
      pass_line HeaderRest (HorizonRest v) (header_line v) c.args.lines.now c.next.new.self h.0
          (subst IsOneLine found.1 c.in-Some.ensures.line.0)
          (c.in-Some.ensures.line.1 ∙ ap (λ t. t ++ (10 ∷ c.next.new.self.rest.now)) found.1)
          c.next.ensures.count h.1 (λ ls r. header_onto v ls found.0 r)
          (λ ls r. header_off v ls found.0 r),
    )

pub returns-in-None-clause-err : goal.returns-in-None-clause-err
returns-in-None-clause-err c =
    fail_line HeaderRest c.in-Some.line.now c.next.new.self.rest.now c.args.lines.now some_header.0
    c.fault-in-None.result some_header.1 c.in-Some.ensures.line.0 c.in-Some.ensures.line.1
    (λ ls r. no_header c.in-Some.line.now ls (λ v is e. none_some v (c.in-None.ensures.exact v is e)) r)
    (c.fault-in-None.ensures ∙ ap faults.At c.next.ensures.count)

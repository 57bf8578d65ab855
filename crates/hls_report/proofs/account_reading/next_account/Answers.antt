use Rattle.std.proofs.Common.{◌∷◌, [], ◌++◌, ap, ◌∙◌, subst, codes}
use Rattle.hls_report.specs.declared.fault.ReportFault.TheVariants as faults
use Rattle.hls_report_text.specs.ReportText.{account_text}
use Rattle.hls_report_text.specs.WellFormed.{IsOneLine}
use Rattle.hls_report.specs.Inside.Rests.{AccountRest, EndRest}
use Rattle.hls_report.proofs.AccountSteps.{no_account}
use Rattle.hls_report.proofs.LineReadings.{none_some}
use Rattle.hls_report.proofs.Sections.{idle_text}
use Rattle.hls_report.proofs.RestLaws.{last_lines, some_account, some_end, account_onto, account_off}
use Rattle.hls_report.proofs.RestLaws.{idle_onto, idle_off, no_last_account}
use Rattle.hls_report.proofs.Stuck.{pass_line, fail_line, fail_end}
use Rattle.hls_report.proofs.account_reading.next_account.Goals as goal

pub returns-in_default-clause-err : goal.returns-in_default-clause-err
returns-in_default-clause-err c =
    fail_end (AccountRest c.args.horizon) c.args.lines.now last_lines c.fault.result
    (some_account c.args.horizon) c.in_default.ensures.line
    (c.fault.ensures ∙ ap faults.At c.next.ensures.count) (no_last_account c.args.horizon)

pub returns-in-Some-account-clause-ok : goal.returns-in-Some-account-clause-ok
returns-in-Some-account-clause-ok c =
    let a = c.in-Some-account.account in
    let found = c.in-Some-account.ensures.found in (
      found.0,
      pass_line (AccountRest c.args.horizon) (AccountRest c.args.horizon) (account_text a) c.args.lines.now
          c.next.new.self last_lines
          (subst IsOneLine found.1 c.in-Some.ensures.line.0)
          (c.in-Some.ensures.line.1 ∙ ap (λ t. t ++ (10 ∷ c.next.new.self.rest.now)) found.1)
          c.next.ensures.count (some_account c.args.horizon)
          (λ ls r. account_onto c.args.horizon a ls found.0 r)
          (λ ls r. account_off c.args.horizon a ls c.requires.few found.0 r),
    )

pub returns-in-Some-idle_of-clause-ok : goal.returns-in-Some-idle_of-clause-ok
returns-in-Some-idle_of-clause-ok c =
    let n = c.in-Some-idle_of.ticks in
    let found = c.in-Some-idle_of.ensures.found in (
      found.0,
      pass_line (AccountRest c.args.horizon) EndRest (idle_text n) c.args.lines.now c.next.new.self
          (codes "end" ∷ [])
          (subst IsOneLine found.1 c.in-Some.ensures.line.0)
          (c.in-Some.ensures.line.1 ∙ ap (λ t. t ++ (10 ∷ c.next.new.self.rest.now)) found.1)
          c.next.ensures.count some_end
          (λ ls r. idle_onto c.args.horizon n ls found.0 r)
          (λ ls r. idle_off c.args.horizon n ls c.requires.few found.0 r),
    )

pub returns-in-None-clause-err : goal.returns-in-None-clause-err
returns-in-None-clause-err c =
    fail_line (AccountRest c.args.horizon) c.in-Some.line.now c.next.new.self.rest.now c.args.lines.now
    last_lines c.fault-in-None.result (some_account c.args.horizon) c.in-Some.ensures.line.0
    c.in-Some.ensures.line.1
    (λ ls r. no_account c.args.horizon c.in-Some.line.now ls
    (λ a is e. none_some a (c.in_default-account.ensures.exact a is e))
    (λ n lt e. none_some n (c.in-None.ensures.exact n lt e)) r)
    (c.fault-in-None.ensures ∙ ap faults.At c.next.ensures.count)

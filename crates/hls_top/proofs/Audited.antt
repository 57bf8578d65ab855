-- The verdicts of audits, and that a trial finds its report kept.
use Rattle.std.proofs.Common.{◌≡◌, ℕ, ◌∷◌, [], ◌++◌, refl, ap, ◌∙◌}
use Rattle.hls_text.specs.Lines.{Text}
use Rattle.hls_report_text.specs.declared.report.Report.{Report}
use Rattle.hls_report_text.specs.Content.{Content, content_of}
use Rattle.hls_report_text.specs.ReportText.{ended}
use Rattle.hls_report_text.specs.WellFormed.{IsReportText}
use Rattle.hls_legal.specs.Moment.{Boxes}
use Rattle.hls_legal.specs.Legal.{IsLegalReport}
use Rattle.hls_audit_clauses.specs.Kept.{IsKept}
use Rattle.hls_audit_clauses.proofs.Kept.{report_kept}
use Rattle.hls_audit.specs.declared.auditing.Outcome.{Outcome}
use Rattle.hls_audit.specs.declared.auditing.Outcome.TheVariants.{Kept, Broken}
use Rattle.hls_audit.specs.Audits.{IsAudit}
use Rattle.hls_gen.specs.Generated.{generated}
use Rattle.hls_top.specs.Outputs.{IsOfCheck, IsTrialOf}
use Rattle.hls_top.specs.Summaries.{verdict, status_of, trial_lines}

-- what an audit of a report that was read comes to is a verdict on its text
pub verdict_is : (bytes output : Text) (report : Report) (audit : Outcome) → IsReportText bytes report
    → IsAudit (content_of report) audit → output ≡ verdict audit ++ 10 ∷ []
    → IsOfCheck bytes (status_of audit) output
verdict_is bytes output report Kept read audited spelled =
    record { report = report; read = read; audited = audited; spelled = spelled }
verdict_is bytes output report (Broken clause tick) read audited spelled =
    (clause, tick, record { report = report; read = read; audited = audited; spelled = spelled })

-- what is kept is audited as kept
found_kept : (c : Content) (audit : Outcome) → IsAudit c audit → IsKept c → audit ≡ Kept
found_kept c Kept audited kept = refl
found_kept c (Broken clause tick) audited kept = absurd (kept audited.clause tick audited.fails)

pub trial_is : (number : ℕ) (boxes : Boxes) (output : Text) (report : Report) (audit : Outcome)
    → IsLegalReport (generated number) 3 boxes report → IsAudit (content_of report) audit
    → output ≡ ended (trial_lines number (content_of report) audit) → IsTrialOf number boxes output
trial_is number boxes output report audit legal audited spelled =
    let kept : IsKept (content_of report) =
    λ clause t. report_kept (generated number) 3 boxes (content_of report) legal.legal clause t in
    record {
      report = report;
      legal = legal;
      kept = kept;
      spelled = spelled ∙ ap (λ (o : Outcome). ended (trial_lines number (content_of report) o))
          (found_kept (content_of report) audit audited kept);
    }

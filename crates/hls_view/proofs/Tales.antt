-- What is said of a report, by whether it tells a tale.
use Rattle.std.proofs.Common.{◌≡◌, ℕ, ◌≤◌, ◌∷◌, [], ◌++◌, subst, ap, sym, ◌∙◌}
use Rattle.hls_text.specs.Lines.{Text}
use Rattle.hls_io.specs.declared.status.Status.{Status}
use Rattle.hls_io.specs.declared.status.Status.TheVariants as statuses
use Rattle.hls_report_text.specs.declared.report.Report.{Report}
use Rattle.hls_report_text.specs.Content.{Content, content_of}
use Rattle.hls_report_text.specs.WellFormed.{IsReportText}
use Rattle.hls_audit.specs.declared.auditing.Outcome.{Outcome}
use Rattle.hls_audit.specs.declared.auditing.Outcome.TheVariants.{Kept, Broken}
use Rattle.hls_audit.specs.Audits.{IsAudit, IsTale}
use Rattle.hls_top.specs.Summaries.{verdict}
use Rattle.hls_view_words.specs.declared.views.View.{View}
use Rattle.hls_view.specs.Texts.{IsViewText}
use Rattle.hls_view.specs.Outputs.{IsSaid}
use Rattle.hls_view.specs.Inside.Shown.{Says}

-- a kept report tells a tale
pub kept_tells : (c : Content) (audit : Outcome) → audit ≡ Kept → IsAudit c audit → IsTale c Kept
kept_tells c audit is audited = λ clause t le. subst (λ (o : Outcome). IsAudit c o) is audited clause t

first_tells : (c : Content) (clause tick : ℕ) → clause ≤ 2 → IsAudit c (Broken clause tick)
    → IsTale c (Broken clause tick)
first_tells c clause tick le broken = record {
  clause = broken.clause;
  number_is = broken.number_is;
  among = le;
  fails = broken.fails;
  earliest = λ other before few lt. broken.earliest other before lt;
  least = broken.least;
}

-- where one of the first two clauses fails first of all, it does so among these two
pub broken_tells : (c : Content) (audit : Outcome) (clause tick : ℕ) → audit ≡ Broken clause tick → clause ≤ 2
    → IsAudit c audit → IsTale c audit
broken_tells c audit clause tick is le audited =
    subst (λ (o : Outcome). IsAudit c o → IsTale c o) (sym is) (first_tells c clause tick le) audited

pub shown_is : (view : View) (bytes output : Text) (report : Report) (audit tale : Outcome)
    → IsReportText bytes report → tale ≡ Kept → IsTale (content_of report) tale → IsAudit (content_of report) audit
    → IsViewText view (content_of report) audit output → IsSaid view bytes statuses.Done output
shown_is view bytes output report audit tale read is told audited said = record {
  report = report;
  audit = audit;
  read = read;
  tale = subst (λ (o : Outcome). IsTale (content_of report) o) is told;
  audited = audited;
  said = said;
}

pub untold_is : (view : View) (bytes output : Text) (report : Report) (tale : Outcome) (clause tick : ℕ)
    → IsReportText bytes report → tale ≡ Broken clause tick → IsTale (content_of report) tale
    → output ≡ verdict tale ++ 10 ∷ [] → IsSaid view bytes statuses.Broken output
untold_is view bytes output report tale clause tick read is told spelled = (
  clause,
  tick,
  record {
    report = report;
    read = read;
    broken = subst (λ (o : Outcome). IsTale (content_of report) o) is told;
    spelled = spelled ∙ ap (λ (o : Outcome). verdict o ++ 10 ∷ []) is;
  },
)

-- what is said of the tale is said of the text
pub says_is : (view : View) (bytes output : Text) (status : Status) (report : Report) (audit tale : Outcome)
    → IsReportText bytes report → tale ≡ Kept → IsTale (content_of report) tale → IsAudit (content_of report) audit
    → Says view (content_of report) audit status output → IsSaid view bytes status output
says_is view bytes output statuses.Done report audit tale read is told audited said =
    shown_is view bytes output report audit tale read is told audited said
says_is view bytes output statuses.TooLong report audit tale read is told audited said = record {
  report = report;
  read = read;
  tale = subst (λ (o : Outcome). IsTale (content_of report) o) is told;
  tall = said.0;
  silent = said.1;
}
says_is view bytes output statuses.Broken report audit tale read is told audited said = absurd said
says_is view bytes output statuses.Usage report audit tale read is told audited said = absurd said
says_is view bytes output statuses.RefusedText report audit tale read is told audited said = absurd said
says_is view bytes output statuses.ReadFault report audit tale read is told audited said = absurd said
says_is view bytes output statuses.WriteFault report audit tale read is told audited said = absurd said
says_is view bytes output statuses.Memory report audit tale read is told audited said = absurd said

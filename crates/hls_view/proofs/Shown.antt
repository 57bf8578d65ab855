-- A legal report is shown, and what run writes is one.
use Rattle.std.proofs.Common.{◌≡◌, ℕ, ◌≤◌, length, refl, sym, subst, inl, inr}
use Rattle.std.specs.Prelude.{◌⊎◌, Some}
use Rattle.hls_text.specs.Lines.{Text}
use Rattle.hls_io.specs.declared.status.Status.{Status}
use Rattle.hls_io.specs.declared.status.Status.TheVariants as statuses
use Rattle.hls_report_text.specs.declared.report.Report.{Report}
use Rattle.hls_report_text.specs.Content.{Content, content_of}
use Rattle.hls_legal.specs.Moment.{Boxes}
use Rattle.hls_audit_clauses.specs.Kept.{IsKept}
use Rattle.hls_audit.specs.declared.auditing.Outcome.TheVariants as outcomes
use Rattle.hls_audit.specs.Audits.{IsTale}
use Rattle.hls_top.specs.Exchange.{report_limit}
use Rattle.hls_top.specs.Outputs.{IsReportOf}
use Rattle.hls_top.specs.Musts.{OrMemory}
use Rattle.hls_view_legal_laws.proofs.Judged.{tale-kept}
use Rattle.hls_view_words.specs.Table.{IsView}
use Rattle.hls_view_words.specs.declared.views.View.{View}
use Rattle.hls_view.specs.Viewing.{Viewing, IsFaultless}
use Rattle.hls_view.specs.Texts.{HasManyRows}
use Rattle.hls_view.specs.Musts.{Judges, MustAnswer}
use Rattle.hls_view.specs.Reads.{ReadsLegalReport}
use Rattle.hls_view.proofs.Broken.{legal_kept}

pub run_reads : (depth : ℕ) (boxes : Boxes) (bytes output : Text) (x : Viewing)
    (written : IsReportOf depth boxes bytes output) → x.source.left ≡ Some output
    → ReadsLegalReport x (content_of written.report)
run_reads depth boxes bytes output x written told = record {
  bytes = output;
  told = told;
  text = record {
    report = written.report;
    read = record { formed = written.legal.formed; spelled = written.spelled };
    content_is = refl;
  };
  scenario = written.scenario;
  given = depth;
  boxes = boxes;
  legal = written.legal.legal;
}

-- of three answers with their reasons, the reasons of two do not hold
first_of : (Done Tall Broken Told Many : Type 0) → Told → ¬ Many
    → (Done × Told × ¬ Many) ⊎ ((Tall × Told × Many) ⊎ (Broken × ¬ Told)) → Done
first_of Done Tall Broken Told Many told few (inl done) = done.0
first_of Done Tall Broken Told Many told few (inr (inl tall)) = absurd (few tall.2)
first_of Done Tall Broken Told Many told few (inr (inr broken)) = absurd (broken.1 told)

or_memory : (status : Status) (A B : Type 0) → (A → B) → OrMemory status A → OrMemory status B
or_memory status A B f (inl answer) = inl (f answer)
or_memory status A B f (inr memory) = inr memory

-- a kept report that does not have too many rows is judged to be shown
is_shown : (view : View) (c : Content) (report : Report) (status : Status) → content_of report ≡ c → IsKept c
    → ¬ HasManyRows view c → Judges view status report → status ≡ statuses.Done
is_shown view c report status same kept few judged =
    first_of (status ≡ statuses.Done) (status ≡ statuses.TooLong) (status ≡ statuses.Broken)
    (IsTale (content_of report) outcomes.Kept) (HasManyRows view (content_of report))
    (tale-kept (content_of report) (subst IsKept (sym same) kept))
    (subst (λ (d : Content). ¬ HasManyRows view d) (sym same) few) judged

pub shows_legal : (x : Viewing) (c : Content) (view : View) (status : Status) (reads : ReadsLegalReport x c)
    → length reads.bytes ≤ report_limit → IsView x.words view → ¬ HasManyRows view c → IsFaultless x
    → MustAnswer x status → OrMemory status (status ≡ statuses.Done)
shows_legal x c view status reads small words few faultless must =
    or_memory status (Judges view status reads.text.report) (status ≡ statuses.Done)
    (is_shown view c reads.text.report status reads.text.content_is (legal_kept x c reads) few)
    (must.shows view reads.bytes reads.text.report
    (record { words = words; told = reads.told; faultless = faultless }) reads.text.read small)

-- What is read as a legal report is never told to be broken.
use Rattle.std.proofs.Common.{◌≡◌, ℕ, ◌∙◌, subst}
use Rattle.std.specs.Prelude.{Some}
use Rattle.hls_text.specs.Lines.{Text}
use Rattle.hls_io.specs.declared.status.Status.{Status}
use Rattle.hls_io.specs.declared.status.Status.TheVariants as statuses
use Rattle.hls_report_text.specs.declared.report.Report.{Report}
use Rattle.hls_report_text.specs.Content.{Content, content_of}
use Rattle.hls_report_text.specs.WellFormed.{IsReportText}
use Rattle.hls_audit_clauses.specs.Kept.{IsKept}
use Rattle.hls_audit_clauses.proofs.Kept.{report_kept}
use Rattle.hls_audit.specs.declared.auditing.Outcome.TheVariants as outcomes
use Rattle.hls_audit.specs.Audits.{IsTale}
use Rattle.hls_top.proofs.Answering.{content_is}
use Rattle.hls_top.proofs.Outcomes.{read_is}
use Rattle.hls_view_words.specs.declared.views.View.{View}
use Rattle.hls_view.specs.Viewing.{Viewing}
use Rattle.hls_view.specs.Outputs.{IsUntold, IsSaid}
use Rattle.hls_view.specs.Ends.{IsOfView, Writes, Ends}
use Rattle.hls_view.specs.Reads.{IsTextOf, ReadsLegalReport}

-- every report of the text has this content
pub same_content : (bytes : Text) (c : Content) (r : Report) → IsTextOf bytes c → IsReportText bytes r
    → content_of r ≡ c
same_content bytes c r text read = content_is bytes r text.report read text.read ∙ text.content_is

pub legal_kept : (x : Viewing) (c : Content) → ReadsLegalReport x c → IsKept c
legal_kept x c reads = λ clause t. report_kept reads.scenario reads.given reads.boxes c reads.legal clause t

-- what was read is that text
pub read_text : (x : Viewing) (bytes read : Text) (c : Content) → IsTextOf bytes c → bytes ≡ read → IsTextOf read c
read_text x bytes read c text same = subst (λ (b : Text). IsTextOf b c) same text

no_clause : (c : Content) (clause tick : ℕ) → IsKept c → IsTale c (outcomes.Broken clause tick) → ⊥
no_clause c clause tick kept broken = kept broken.clause tick broken.fails

untold_never : (bytes output : Text) (clause tick : ℕ) (c : Content) → IsKept c → IsTextOf bytes c
    → IsUntold bytes clause tick output → ⊥
untold_never bytes output clause tick c kept text is =
    no_clause c clause tick kept
    (subst (λ (d : Content). IsTale d (outcomes.Broken clause tick)) (same_content bytes c is.report text is.read)
    is.broken)

said_never : (view : View) (bytes output : Text) (c : Content) → IsKept c → IsTextOf bytes c
    → IsSaid view bytes statuses.Broken output → ⊥
said_never view bytes output c kept text (clause, tick, is) = untold_never bytes output clause tick c kept text is

due_never : (x : Viewing) (bytes output : Text) (c : Content) → IsKept c → IsTextOf bytes c
    → x.source.left ≡ Some bytes → IsOfView x statuses.Broken output → ⊥
due_never x bytes output c kept text told due =
    said_never due.view due.is.bytes output c kept
    (read_text x bytes due.is.bytes c text (read_is x.source bytes due.is.bytes told due.is.whole)) due.is.said

writes_never : (x : Viewing) (bytes : Text) (c : Content) → IsKept c → IsTextOf bytes c → x.source.left ≡ Some bytes
    → Writes x statuses.Broken → ⊥
writes_never x bytes c kept text told w = due_never x bytes w.output c kept text told w.due

pub never_broken : (x : Viewing) (c : Content) (status : Status) → ReadsLegalReport x c → Ends x status
    → status ≡ statuses.Broken → ⊥
never_broken x c status reads ends is =
    writes_never x reads.bytes c (legal_kept x c reads) reads.text reads.told
    (subst (λ (s : Status). Ends x s) is ends)

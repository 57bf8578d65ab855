-- What is written of a legal report is the view of a kept one.
use Rattle.std.proofs.Common.{◌≡◌, ◌∙◌, subst}
use Rattle.std.specs.Prelude.{Some}
use Rattle.std.specs.Io.KnownBytes.{Appends}
use Rattle.hls_text.specs.Lines.{Text}
use Rattle.hls_io.specs.declared.status.Status.TheVariants as statuses
use Rattle.hls_report_text.specs.Content.{Content, content_of}
use Rattle.hls_audit_clauses.specs.Kept.{IsKept}
use Rattle.hls_audit.specs.declared.auditing.Outcome.{Outcome}
use Rattle.hls_audit.specs.declared.auditing.Outcome.TheVariants as outcomes
use Rattle.hls_audit.specs.Audits.{IsAudit}
use Rattle.hls_view_rows.specs.Margins.{margins_text}
use Rattle.hls_view_legal_laws.proofs.Judged.{audit-kept, numbers-told}
use Rattle.hls_top.proofs.Outcomes.{read_is}
use Rattle.hls_view_words.specs.Table.{IsView}
use Rattle.hls_view_words.specs.declared.views.View.{View}
use Rattle.hls_view_words.specs.declared.views.View.TheVariants.{Margins}
use Rattle.hls_view_words.proofs.OneView.{same_view}
use Rattle.hls_view.specs.Viewing.{Viewing}
use Rattle.hls_view.specs.Texts.{IsViewText, ShowsMargins}
use Rattle.hls_view.specs.Outputs.{IsShown}
use Rattle.hls_view.specs.Ends.{IsOfView, Writes}
use Rattle.hls_view.specs.Reads.{IsTextOf, ReadsLegalReport}
use Rattle.hls_view.specs.Kept.{ShowsItIsKept}
use Rattle.hls_view.specs.Accounts.{ShowsAccounts}
use Rattle.hls_view.proofs.Broken.{same_content, legal_kept, read_text}
use Rattle.hls_view.proofs.Saying.{margins_begin, says_kept}

-- what holds of a content and its audit holds of the same content as a kept one
as_kept : (P : Content → Outcome → Type 0) (c d : Content) (audit : Outcome) → d ≡ c → IsKept c → IsAudit d audit
    → P d audit → P c outcomes.Kept
as_kept P c d audit same kept audited holds =
    subst (λ (o : Outcome). P c o) (audit-kept c audit kept (subst (λ (e : Content). IsAudit e audit) same audited))
    (subst (λ (e : Content). P e audit) same holds)

shown_kept : (view : View) (bytes output : Text) (c : Content) → IsKept c → IsTextOf bytes c
    → IsShown view bytes output → IsViewText view c outcomes.Kept output
shown_kept view bytes output c kept text is =
    as_kept (λ (e : Content) (o : Outcome). IsViewText view e o output) c (content_of is.report) is.audit
    (same_content bytes c is.report text is.read) kept is.audited is.said

due_kept : (x : Viewing) (bytes output : Text) (c : Content) → IsKept c → IsTextOf bytes c
    → x.source.left ≡ Some bytes → (due : IsOfView x statuses.Done output)
    → IsViewText due.view c outcomes.Kept output
due_kept x bytes output c kept text told due =
    shown_kept due.view due.is.bytes output c kept
    (read_text x bytes due.is.bytes c text (read_is x.source bytes due.is.bytes told due.is.whole)) due.is.said

pub writes_kept : (x : Viewing) (c : Content) → ReadsLegalReport x c → Writes x statuses.Done → ShowsItIsKept x c
writes_kept x c reads w =
    let is : IsViewText w.due.view c outcomes.Kept w.output =
    due_kept x reads.bytes w.output c (legal_kept x c reads) reads.text reads.told w.due in
    record {
      view = w.due.view;
      words = w.due.words;
      output = w.output;
      written = w.written;
      is = is;
      says = says_kept w.due.view c w.output is;
    }

-- ---- margins

margins_of : (view : View) (c : Content) (output : Text) → view ≡ Margins → IsViewText view c outcomes.Kept output
    → ShowsMargins c outcomes.Kept output
margins_of view c output same is = subst (λ (v : View). IsViewText v c outcomes.Kept output) same is

pub writes_accounts : (x : Viewing) (c : Content) → ReadsLegalReport x c → IsView x.words Margins
    → Writes x statuses.Done → ShowsAccounts x c
writes_accounts x c reads words w =
    let shows : ShowsMargins c outcomes.Kept w.output =
    margins_of w.due.view c w.output (same_view x.words w.due.view Margins w.due.words words)
    (due_kept x reads.bytes w.output c (legal_kept x c reads) reads.text reads.told w.due) in
    record {
      margins = shows.margins;
      are = shows.are;
      numbers = numbers-told c shows.margins reads.legal.accounts shows.are;
      written = subst (λ (t : Text). Appends x.sink.written x.sink.written_after t)
          (shows.spelled ∙ margins_begin (margins_text shows.margins)) w.written;
    }

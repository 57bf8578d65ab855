-- The answers that must come follow from how a run ends.
use Rattle.std.proofs.Common.{◌≡◌, ℕ, ◌<◌, ◌≤◌, length, refl, ap, subst, arith, inl, inr}
use Rattle.hls_io.specs.declared.status.Status.{Status}
use Rattle.hls_io.specs.declared.status.Status.TheVariants.{Done, Broken, Usage, RefusedText, ReadFault}
use Rattle.hls_io.specs.declared.status.Status.TheVariants.{WriteFault, Memory, TooLong}
use Rattle.hls_text.specs.Lines.{Text}
use Rattle.hls_report_text.specs.declared.report.Report.{Report}
use Rattle.hls_report_text.specs.Content.{Content, content_of}
use Rattle.hls_report_text.specs.WellFormed.{IsReportText}
use Rattle.hls_audit.specs.declared.auditing.Outcome.{Outcome}
use Rattle.hls_audit.specs.declared.auditing.Outcome.TheVariants.{Kept, Broken}
use Rattle.hls_audit.specs.Audits.{IsTale}
use Rattle.std.specs.Prelude.{Some, None}
use Rattle.hls_top.specs.Exchange.{report_limit}
use Rattle.hls_top.specs.Refusing.{IsNoReportText}
use Rattle.hls_top.specs.Musts.{OrMemory}
use Rattle.hls_top.proofs.Outcomes.{read_is, not_past}
use Rattle.hls_top.proofs.Answering.{content_is}
use Rattle.hls_view_words.specs.Table.{IsNoView}
use Rattle.hls_view_words.specs.declared.views.View.{View}
use Rattle.hls_view_words.specs.declared.views.View.TheVariants.{Margins, Tree, Jobs, Svg, Trace}
use Rattle.hls_view.specs.Viewing.{Viewing, IsFaultless}
use Rattle.hls_view.specs.Texts.{HasManyRows, IsViewText}
use Rattle.hls_view.specs.Outputs.{IsSaid}
use Rattle.hls_view.specs.Ends.{Ends}
use Rattle.hls_view.specs.Musts.{Came, Judges, MustAnswer}
use Rattle.hls_view.proofs.Outcomes.{comes}

-- ---- what an output tells of its status

-- a clause that fails first is one of the two
untold : (c : Content) (clause tick : ℕ) → IsTale c (Broken clause tick) → ¬ IsTale c Kept
untold c clause tick broken = λ kept.
    kept broken.clause tick (subst (λ n. n ≤ 2) broken.number_is broken.among) broken.fails

-- what is shown has no more rows than are drawn
few_rows : (view : View) (c : Content) (audit : Outcome) (output : Text) → IsViewText view c audit output
    → ¬ HasManyRows view c
few_rows Margins c audit output is = λ many. absurd many
few_rows (Tree at) c audit output is = λ many. absurd many
few_rows (Jobs None) c audit output is = λ many. absurd many
few_rows (Jobs (Some name)) c audit output is = λ many. absurd many
few_rows (Svg from to) c audit output is = is.few
few_rows (Trace tick) c audit output is = is.few

judged : (view : View) (bytes : Text) (status : Status) (output : Text) (report : Report)
    → IsSaid view bytes status output → IsReportText bytes report → Judges view status report
judged view bytes Done output report is text =
    let same : content_of is.report ≡ content_of report = content_is bytes is.report report is.read text in
    inl (
      refl,
      subst (λ c. IsTale c Kept) same is.tale,
      subst (λ c. ¬ HasManyRows view c) same (few_rows view (content_of is.report) is.audit output is.said),
    )
judged view bytes TooLong output report is text =
    let same : content_of is.report ≡ content_of report = content_is bytes is.report report is.read text in
    inr (inl (
      refl,
      subst (λ c. IsTale c Kept) same is.tale,
      subst (λ c. HasManyRows view c) same is.tall,
    ))
judged view bytes Broken output report (clause, tick, is) text =
    inr (inr (
      refl,
      untold (content_of report) clause tick
          (subst (λ c. IsTale c (Broken clause tick)) (content_is bytes is.report report is.read text) is.broken),
    ))
judged view bytes RefusedText output report is text = absurd (is.none report text)
judged view bytes Usage output report is text = absurd is
judged view bytes ReadFault output report is text = absurd is
judged view bytes WriteFault output report is text = absurd is
judged view bytes Memory output report is text = absurd is

refused : (view : View) (bytes : Text) (status : Status) (output : Text) → IsSaid view bytes status output
    → IsNoReportText bytes → status ≡ RefusedText
refused view bytes Done output is none = absurd (none is.report is.read)
refused view bytes Broken output (clause, tick, is) none = absurd (none is.report is.read)
refused view bytes RefusedText output is none = refl
refused view bytes Usage output is none = absurd is
refused view bytes ReadFault output is none = absurd is
refused view bytes WriteFault output is none = absurd is
refused view bytes Memory output is none = absurd is
refused view bytes TooLong output is none = absurd (none is.report is.read)

-- ---- line by line

module _ (x : Viewing) (status : Status) (h : Ends x status) where
  shows : (view : View) (bytes : Text) (report : Report) → Came x view bytes → IsReportText bytes report
      → length bytes ≤ report_limit → OrMemory status (Judges view status report)
  shows view bytes report came text small = elim (comes x status h came.faultless view came.words) [
    | inl memory ↦ inr memory
    | inr (inl long) ↦ absurd (not_past report_limit x.source bytes came.told long.long small)
    | inr (inr due) ↦ inl (judged view due.is.bytes status due.output report due.is.said
        (subst (λ bs. IsReportText bs report) (read_is x.source bytes due.is.bytes came.told due.is.whole) text))
  ]

  refuses_text : (view : View) (bytes : Text) → Came x view bytes → IsNoReportText bytes
      → length bytes ≤ report_limit → OrMemory status (status ≡ RefusedText)
  refuses_text view bytes came none small = elim (comes x status h came.faultless view came.words) [
    | inl memory ↦ inr memory
    | inr (inl long) ↦ absurd (not_past report_limit x.source bytes came.told long.long small)
    | inr (inr due) ↦ inl (refused view due.is.bytes status due.output due.is.said
        (subst IsNoReportText (read_is x.source bytes due.is.bytes came.told due.is.whole) none))
  ]

  refuses_length : (view : View) (bytes : Text) → Came x view bytes → report_limit < length bytes
      → OrMemory status (status ≡ TooLong)
  refuses_length view bytes came long = elim (comes x status h came.faultless view came.words) [
    | inl memory ↦ inr memory
    | inr (inl past) ↦ inl past.status_is
    | inr (inr due) ↦ absurd
        (let count : length bytes ≡ length due.is.bytes =
        ap (λ (bs : Text). length bs) (read_is x.source bytes due.is.bytes came.told due.is.whole) in
        let small : length due.is.bytes ≤ report_limit = due.is.within in
        omega (arith, count, small, long))
  ]

refuses_words : (x : Viewing) (status : Status) → Ends x status → IsNoView x.words → IsFaultless x
    → OrMemory status (status ≡ Usage)
refuses_words x Done h none quiet = absurd (none h.due.view h.due.words)
refuses_words x Broken h none quiet = absurd (none h.due.view h.due.words)
refuses_words x RefusedText h none quiet = absurd (none h.due.view h.due.words)
refuses_words x Usage h none quiet = inl refl
refuses_words x ReadFault h none quiet = absurd (none h.view h.words)
refuses_words x TooLong h none quiet = elim h [
  | inl cut ↦ absurd (none cut.view cut.words)
  | inr w ↦ absurd (none w.due.view w.due.words)
]
refuses_words x WriteFault h none quiet = absurd (quiet.writes h.write_failed)
refuses_words x Memory h none quiet = inr refl

pub must_answer : (x : Viewing) (status : Status) → Ends x status → MustAnswer x status
must_answer x status h = record {
  shows = shows x status h;
  refuses_text = refuses_text x status h;
  refuses_length = refuses_length x status h;
  refuses_words = refuses_words x status h;
}

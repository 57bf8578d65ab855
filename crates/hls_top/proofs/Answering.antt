-- The answers that must come follow from how a run ends.
use Rattle.std.proofs.Common.{◌≡◌, ℕ, ◌<◌, ◌≤◌, length, refl, sym, ap, subst, arith, inl, inr, ◌∙◌}
use Rattle.std.specs.Prelude.{None, Some}
use Rattle.hls_io.specs.declared.status.Status.{Status}
use Rattle.hls_io.specs.declared.status.Status.TheVariants.{Done, Broken, Usage, RefusedText, ReadFault}
use Rattle.hls_io.specs.declared.status.Status.TheVariants.{WriteFault, Memory, TooLong}
use Rattle.hls_text.specs.Lines.{Text}
use Rattle.hls_top_words.specs.Table.{IsJob, IsNoJob}
use Rattle.hls_top_words.specs.declared.jobs.Job.{Job}
use Rattle.hls_top_words.specs.declared.jobs.Job.TheVariants.{Run, Check, Gen, Trial}
use Rattle.hls_scenario.specs.declared.scenario.Scenario.{Scenario}
use Rattle.hls_scenario.specs.Grammar.{IsScenarioText}
use Rattle.hls_report_text.specs.declared.report.Report.{Report}
use Rattle.hls_report_text.specs.Content.{content_of}
use Rattle.hls_report_text.specs.WellFormed.{IsReportText}
use Rattle.hls_report.proofs.Sections.{report_same}
use Rattle.hls_legal.specs.Moment.{Boxes}
use Rattle.hls_audit_clauses.specs.Kept.{IsKept, IsBroken}
use Rattle.hls_top.specs.Exchange.{Drawn, Exchange, scenario_limit, report_limit, limit, IsFaultless}
use Rattle.hls_top.specs.Refusing.{IsNoScenarioText, IsNoReportText}
use Rattle.hls_top.specs.Outputs.{IsReportOf, IsOfRun, IsOfCheck, IsOfGen, IsOfTrial, IsOutput}
use Rattle.hls_top.specs.Ends.{Ends}
use Rattle.hls_top.specs.Musts.{Came, OrMemory, Judges, MustAnswer}
use Rattle.hls_top.proofs.Outcomes.{comes, read_is, not_past}

-- ---- what an output tells of its status

run_done : (depth : ℕ) (boxes : Boxes) (bytes : Text) (status : Status) (output : Text) (scenario : Scenario)
    → IsOfRun depth boxes bytes status output → IsScenarioText bytes scenario → status ≡ Done
run_done depth boxes bytes Done output scenario is text = refl
run_done depth boxes bytes RefusedText output scenario is text = absurd (is.none scenario text)
run_done depth boxes bytes Broken output scenario is text = absurd is
run_done depth boxes bytes Usage output scenario is text = absurd is
run_done depth boxes bytes ReadFault output scenario is text = absurd is
run_done depth boxes bytes WriteFault output scenario is text = absurd is
run_done depth boxes bytes Memory output scenario is text = absurd is
run_done depth boxes bytes TooLong output scenario is text = absurd is

run_refused : (depth : ℕ) (boxes : Boxes) (bytes : Text) (status : Status) (output : Text)
    → IsOfRun depth boxes bytes status output → IsNoScenarioText bytes → status ≡ RefusedText
run_refused depth boxes bytes Done output is none = absurd (none is.scenario is.read)
run_refused depth boxes bytes RefusedText output is none = refl
run_refused depth boxes bytes Broken output is none = absurd is
run_refused depth boxes bytes Usage output is none = absurd is
run_refused depth boxes bytes ReadFault output is none = absurd is
run_refused depth boxes bytes WriteFault output is none = absurd is
run_refused depth boxes bytes Memory output is none = absurd is
run_refused depth boxes bytes TooLong output is none = absurd is

-- a text is of one content
pub content_is : (bytes : Text) (one two : Report) → IsReportText bytes one → IsReportText bytes two
    → content_of one ≡ content_of two
content_is bytes one two a b = report_same one two a.formed b.formed (sym a.spelled ∙ b.spelled)

check_judged : (bytes : Text) (status : Status) (output : Text) (report : Report) → IsOfCheck bytes status output
    → IsReportText bytes report → Judges status report
check_judged bytes Done output report is text =
    inl (refl, subst IsKept (content_is bytes is.report report is.read text) is.audited)
check_judged bytes Broken output report (clause, tick, is) text =
    inr (
      refl,
      λ kept.
          let broken : IsBroken (content_of report) clause tick =
          subst (λ c. IsBroken c clause tick) (content_is bytes is.report report is.read text) is.audited in
          kept broken.clause tick broken.fails,
    )
check_judged bytes RefusedText output report is text = absurd (is.none report text)
check_judged bytes Usage output report is text = absurd is
check_judged bytes ReadFault output report is text = absurd is
check_judged bytes WriteFault output report is text = absurd is
check_judged bytes Memory output report is text = absurd is
check_judged bytes TooLong output report is text = absurd is

check_refused : (bytes : Text) (status : Status) (output : Text) → IsOfCheck bytes status output
    → IsNoReportText bytes → status ≡ RefusedText
check_refused bytes Done output is none = absurd (none is.report is.read)
check_refused bytes Broken output (clause, tick, is) none = absurd (none is.report is.read)
check_refused bytes RefusedText output is none = refl
check_refused bytes Usage output is none = absurd is
check_refused bytes ReadFault output is none = absurd is
check_refused bytes WriteFault output is none = absurd is
check_refused bytes Memory output is none = absurd is
check_refused bytes TooLong output is none = absurd is

gen_done : (number : ℕ) (status : Status) (output : Text) → IsOfGen number status output → status ≡ Done
gen_done number Done output is = refl
gen_done number Broken output is = absurd is
gen_done number RefusedText output is = absurd is
gen_done number Usage output is = absurd is
gen_done number ReadFault output is = absurd is
gen_done number WriteFault output is = absurd is
gen_done number Memory output is = absurd is
gen_done number TooLong output is = absurd is

trial_done : (number : ℕ) (boxes : Boxes) (status : Status) (output : Text) → IsOfTrial number boxes status output
    → status ≡ Done
trial_done number boxes Done output is = refl
trial_done number boxes Broken output is = absurd is
trial_done number boxes RefusedText output is = absurd is
trial_done number boxes Usage output is = absurd is
trial_done number boxes ReadFault output is = absurd is
trial_done number boxes WriteFault output is = absurd is
trial_done number boxes Memory output is = absurd is
trial_done number boxes TooLong output is = absurd is

-- ---- limits

some_is : (m n : ℕ) → Some m ≡ Some n → m ≡ n
some_is m n e = cc

none_is : (n : ℕ) → None ≡ Some n → ⊥
none_is n e = absurd cc

-- there is no output about a longer text
within : (boxes : Boxes) (job : Job) (d : Drawn) (status : Status) (output : Text) (most : ℕ) (bytes : Text)
    → limit job ≡ Some most → d.left ≡ Some bytes → IsOutput boxes job d status output → length bytes ≤ most
within boxes (Run depth) d status output most bytes limited told is =
    let same : scenario_limit ≡ most = some_is scenario_limit most limited in
    let count : length bytes ≡ length is.bytes =
    ap (λ (bs : Text). length bs) (read_is d bytes is.bytes told is.whole) in
    let small : length is.bytes ≤ scenario_limit = is.within in
    omega (arith, same, count, small)
within boxes Check d status output most bytes limited told is =
    let same : report_limit ≡ most = some_is report_limit most limited in
    let count : length bytes ≡ length is.bytes =
    ap (λ (bs : Text). length bs) (read_is d bytes is.bytes told is.whole) in
    let small : length is.bytes ≤ report_limit = is.within in
    omega (arith, same, count, small)
within boxes (Gen number) d status output most bytes limited told is = absurd (none_is most limited)
within boxes (Trial number) d status output most bytes limited told is = absurd (none_is most limited)

-- ---- line by line

module _ (x : Exchange) (status : Status) (h : Ends x status) where
  reports : (depth : ℕ) (bytes : Text) (scenario : Scenario) → Came x (Run depth) bytes
      → IsScenarioText bytes scenario → length bytes ≤ scenario_limit → OrMemory status (status ≡ Done)
  reports depth bytes scenario came text small = elim (comes x status h came.faultless (Run depth) came.words) [
    | inl memory ↦ inr memory
    | inr (inl long) ↦ absurd (not_past scenario_limit x.source bytes came.told long.lacks small)
    | inr (inr due) ↦ inl (run_done depth x.boxes due.is.bytes status due.output scenario due.is.said
        (subst (λ bs. IsScenarioText bs scenario) (read_is x.source bytes due.is.bytes came.told due.is.whole) text))
  ]

  judges : (bytes : Text) (report : Report) → Came x Check bytes → IsReportText bytes report
      → length bytes ≤ report_limit → OrMemory status (Judges status report)
  judges bytes report came text small = elim (comes x status h came.faultless Check came.words) [
    | inl memory ↦ inr memory
    | inr (inl long) ↦ absurd (not_past report_limit x.source bytes came.told long.lacks small)
    | inr (inr due) ↦ inl (check_judged due.is.bytes status due.output report due.is.said
        (subst (λ bs. IsReportText bs report) (read_is x.source bytes due.is.bytes came.told due.is.whole) text))
  ]

  makes : (number : ℕ) → IsJob x.words (Gen number) → IsFaultless x → OrMemory status (status ≡ Done)
  makes number words quiet = elim (comes x status h quiet (Gen number) words) [
    | inl memory ↦ inr memory
    | inr (inl long) ↦ absurd long.lacks
    | inr (inr due) ↦ inl (gen_done number status due.output due.is.said)
  ]

  tries : (number : ℕ) → IsJob x.words (Trial number) → IsFaultless x → OrMemory status (status ≡ Done)
  tries number words quiet = elim (comes x status h quiet (Trial number) words) [
    | inl memory ↦ inr memory
    | inr (inl long) ↦ absurd long.lacks
    | inr (inr due) ↦ inl (trial_done number x.boxes status due.output due.is.said)
  ]

  refuses_scenario : (depth : ℕ) (bytes : Text) → Came x (Run depth) bytes → IsNoScenarioText bytes
      → length bytes ≤ scenario_limit → OrMemory status (status ≡ RefusedText)
  refuses_scenario depth bytes came none small = elim (comes x status h came.faultless (Run depth) came.words) [
    | inl memory ↦ inr memory
    | inr (inl long) ↦ absurd (not_past scenario_limit x.source bytes came.told long.lacks small)
    | inr (inr due) ↦ inl (run_refused depth x.boxes due.is.bytes status due.output due.is.said
        (subst IsNoScenarioText (read_is x.source bytes due.is.bytes came.told due.is.whole) none))
  ]

  refuses_report : (bytes : Text) → Came x Check bytes → IsNoReportText bytes → length bytes ≤ report_limit
      → OrMemory status (status ≡ RefusedText)
  refuses_report bytes came none small = elim (comes x status h came.faultless Check came.words) [
    | inl memory ↦ inr memory
    | inr (inl long) ↦ absurd (not_past report_limit x.source bytes came.told long.lacks small)
    | inr (inr due) ↦ inl (check_refused due.is.bytes status due.output due.is.said
        (subst IsNoReportText (read_is x.source bytes due.is.bytes came.told due.is.whole) none))
  ]

  refuses_length : (job : Job) (most : ℕ) (bytes : Text) → Came x job bytes → limit job ≡ Some most
      → most < length bytes → OrMemory status (status ≡ TooLong)
  refuses_length job most bytes came limited long = elim (comes x status h came.faultless job came.words) [
    | inl memory ↦ inr memory
    | inr (inl past) ↦ inl past.status_is
    | inr (inr due) ↦ absurd
        (let small = within x.boxes job x.source status due.output most bytes limited came.told due.is in
        omega (arith, small, long))
  ]

refuses_words : (x : Exchange) (status : Status) → Ends x status → IsNoJob x.words → IsFaultless x
    → OrMemory status (status ≡ Usage)
refuses_words x Done h none quiet = absurd (none h.due.job h.due.words)
refuses_words x Broken h none quiet = absurd (none h.due.job h.due.words)
refuses_words x RefusedText h none quiet = absurd (none h.due.job h.due.words)
refuses_words x Usage h none quiet = inl refl
refuses_words x ReadFault h none quiet = absurd (none h.job h.words)
refuses_words x TooLong h none quiet = absurd (none h.job h.words)
refuses_words x WriteFault h none quiet = absurd (quiet.writes h.write_failed)
refuses_words x Memory h none quiet = inr refl

pub must_answer : (x : Exchange) (status : Status) → Ends x status → MustAnswer x status
must_answer x status h = record {
  reports = reports x status h;
  judges = judges x status h;
  makes = makes x status h;
  tries = tries x status h;
  refuses_scenario = refuses_scenario x status h;
  refuses_report = refuses_report x status h;
  refuses_length = refuses_length x status h;
  refuses_words = refuses_words x status h;
}

-- ---- one run after another

-- a report that was written is found kept
pub checked_kept : (depth : ℕ) (boxes : Boxes) (bytes output : Text) (x : Exchange) (status : Status)
    → IsReportOf depth boxes bytes output → Came x Check output → length output ≤ report_limit
    → MustAnswer x status → OrMemory status (status ≡ Done)
checked_kept depth boxes bytes output x status written came small must =
    let text : IsReportText output written.report =
    record { formed = written.legal.formed; spelled = written.spelled } in
    elim (must.judges output written.report came text small) [
      | inl (inl kept) ↦ inl kept.0
      | inl (inr broken) ↦ absurd (broken.1 written.promises.kept)
      | inr memory ↦ inr memory
    ]

-- A whole report is read.
use Rattle.std.proofs.Common.{◌≡◌, ℕ, List, [], ◌∷◌, ◌++◌, sym, ap, ◌∙◌, subst}
use Rattle.std.proofs.Common.{append_assoc, arith, flat_map}
use Rattle.std.specs.Prelude.{codes, map, None, Result, Ok, Err, IfOk, IfErr}
use Rattle.std.specs.List.{AllByRecursion}
use Rattle.hls_text.specs.Lines.{Text}
use Rattle.hls_report.specs.declared.fault.ReportFault.{ReportFault}
use Rattle.hls_report.specs.declared.fault.ReportFault.TheVariants as faults
use Rattle.hls_report.specs.declared.lines.Lines.{Lines}
use Rattle.hls_report_text.specs.declared.report.Answered.{Answered}
use Rattle.hls_report_text.specs.declared.report.Report.{Report}
use Rattle.hls_report_text.specs.declared.stretch.Stretch.{Stretch}
use Rattle.hls_report_text.specs.Content.{Content, content_of, stretch_of}
use Rattle.hls_report_text.specs.ReportText.{answered_lines, stretch_text, account_text, head_lines}
use Rattle.hls_report_text.specs.ReportText.{end_lines}
use Rattle.hls_report_text.specs.ReportText.{content_lines, ended, report_text}
use Rattle.hls_report_text.specs.WellFormed.{IsReportText, HasShort, IsContent}
use Rattle.hls_report.specs.Inside.Rests.{Passes, FailsAt, HeaderRest, CommandRest, RunRest, AccountRest}
use Rattle.hls_report.specs.Reports.{ReadsAs, IsBadAt}
use Rattle.hls_report.proofs.ContentLaws.{first_bad, never_stuck}
use Rattle.hls_report.proofs.Sections.{report_same}
use Rattle.hls_report.proofs.Stuck.{pass_on}
use Rattle.hls_report_text.proofs.Writings.{ended-append}

joined : (head commands runs tail : List Text) (schedule accounts : Text)
    → ((head ++ (commands ++ schedule ∷ [])) ++ (runs ++ accounts ∷ [])) ++ tail
    ≡ head ++ (commands ++ schedule ∷ (runs ++ accounts ∷ tail))
joined head commands runs tail schedule accounts =
    append_assoc (head ++ (commands ++ schedule ∷ [])) (runs ++ accounts ∷ []) tail
    ∙ append_assoc head (commands ++ schedule ∷ []) ((runs ++ accounts ∷ []) ++ tail)
    ∙ ap (λ ls. head ++ ls) (append_assoc commands (schedule ∷ []) ((runs ++ accounts ∷ []) ++ tail)
    ∙ ap (λ ls. commands ++ schedule ∷ ls) (append_assoc runs (accounts ∷ []) tail))

abbrev pub command_lines : (version : ℕ) → List Answered → List Text
command_lines version answered = flat_map (answered_lines version) answered ++ codes "schedule" ∷ []

abbrev pub run_lines : List Stretch → List Text
run_lines stretches = map stretch_text stretches ++ codes "accounts" ∷ []

-- the lines of a content were read to the end
pub content_told : (c : Content) (start a b d : Lines)
    → Passes HeaderRest (CommandRest c.version c.horizon 0 65536) (head_lines c.version c.horizon c.depth) start a
    → Passes (CommandRest c.version c.horizon 0 65536) (RunRest c.horizon 0 None [])
    (command_lines c.version c.answered) a b
    → Passes (RunRest c.horizon 0 None []) (AccountRest c.horizon) (run_lines c.stretches) b d
    → d.rest.now ≡ ended (map account_text c.accounts ++ end_lines c.idle)
    → start.rest.now ≡ ended (content_lines c)
content_told c start a b d p q r e =
    let front = head_lines c.version c.horizon c.depth ++ command_lines c.version c.answered in
    let tail = map account_text c.accounts ++ end_lines c.idle in
    let pq = pass_on HeaderRest (CommandRest c.version c.horizon 0 65536) (RunRest c.horizon 0 None [])
    (head_lines c.version c.horizon c.depth) (command_lines c.version c.answered) start a b p q in
    let pqr = pass_on HeaderRest (RunRest c.horizon 0 None []) (AccountRest c.horizon) front
    (run_lines c.stretches) start b d pq r in
    pqr.read ∙ ap (λ (t : Text). ended (front ++ run_lines c.stretches) ++ t) e
    ∙ sym (ended-append (front ++ run_lines c.stretches) tail)
    ∙ ap ended (joined (head_lines c.version c.horizon c.depth) (flat_map (answered_lines c.version) c.answered)
    (map stretch_text c.stretches) tail (codes "schedule") (codes "accounts"))

-- what a text is read as
pub read_as : (start : Lines) (s : Report) (result : Result Report ReportFault)
    → IfOk result (λ r. IsReportText start.rest.now r)
    → IfErr result (λ fault. FailsAt HeaderRest start fault) → IsReportText start.rest.now s
    → ReadsAs s result
unfolding report_text
read_as start s (Ok r) found bad is =
    report_same r s found.formed is.formed (sym found.spelled ∙ is.spelled)
read_as start s (Err (faults.At line)) found bad is = never_stuck start.rest.now bad.0 s bad.2 is
read_as start s (Err (faults.Memory error)) found bad is = tt

pub bad_at : (start : Lines) (result : Result Report ReportFault) → start.count ≡ 0
    → IfErr result (λ fault. FailsAt HeaderRest start fault)
    → IfErr result (λ fault. IsBadAt start.rest.now fault)
bad_at start (Ok r) first bad = tt
bad_at start (Err (faults.At line)) first bad =
    let e : line ≡ bad.0 = omega (arith, bad.1, first) in
    subst (λ n. IsBadAt start.rest.now (faults.At n)) (sym e)
    (first_bad start.rest.now bad.0 bad.2)
bad_at start (Err (faults.Memory error)) first bad = tt

-- the text is that of the report whose parts were read
pub report_told : (r : Report) (start a b d : Lines)
    → AllByRecursion (λ run. HasShort run.path) r.runs → IsContent (content_of r)
    → Passes HeaderRest (CommandRest r.version r.horizon 0 65536) (head_lines r.version r.horizon r.depth) start a
    → Passes (CommandRest r.version r.horizon 0 65536) (RunRest r.horizon 0 None [])
    (command_lines r.version r.answered) a b
    → Passes (RunRest r.horizon 0 None []) (AccountRest r.horizon)
    (run_lines (map (stretch_of r.names) r.runs)) b d
    → d.rest.now ≡ ended (map account_text r.accounts ++ end_lines r.idle)
    → IsReportText start.rest.now r
unfolding report_text
report_told r start a b d paths is p q s e = record {
  formed = record { paths = paths; content = is };
  spelled = content_told (content_of r) start a b d p q s e;
}

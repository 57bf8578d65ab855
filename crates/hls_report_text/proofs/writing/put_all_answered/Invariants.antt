use Rattle.std.proofs.Common.{◌≡◌, ◌++◌, take, flat_map}
use Rattle.hls_report_text.specs.ReportText.{ended, answered_lines}
use Rattle.hls_report_text.proofs.writing.put_all_answered.Given as goal

abbrev pub invariant-loop-one : goal.invariant-loop-one
invariant-loop-one l =
    l.out.items ≡ l.fn.out.items ++ flat_map (λ a. ended (answered_lines l.version a)) (take l.one-index l.answered)

use Rattle.std.proofs.Common.{◌≡◌, ◌++◌, take, flat_map}
use Rattle.hls_report_text.specs.Content.{stretch_of}
use Rattle.hls_report_text.specs.ReportText.{with_end, stretch_text}
use Rattle.hls_report_text.proofs.writing.put_runs.Given as goal

abbrev pub invariant-loop-run : goal.invariant-loop-run
invariant-loop-run l = l.out.items ≡ l.fn.out.items
    ++ flat_map (λ run. with_end (stretch_text (stretch_of l.names run))) (take l.run-index l.runs)

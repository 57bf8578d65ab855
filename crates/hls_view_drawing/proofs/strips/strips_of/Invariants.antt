use Rattle.std.proofs.Common.{◌≡◌, take, flat_map, map}
use Rattle.hls_report_text.specs.declared.report.Run.{Run}
use Rattle.hls_report_text.specs.Content.{stretch_of}
use Rattle.hls_view_drawing.specs.Strips.{data_of, strip_if}
use Rattle.hls_view_drawing.proofs.strips.strips_of.Given as goal

abbrev pub invariant-loop-run : goal.invariant-loop-run
invariant-loop-run l = map data_of l.all.items
    ≡ flat_map (λ (run : Run). strip_if l.scale (stretch_of l.names run)) (take l.run-index l.runs)

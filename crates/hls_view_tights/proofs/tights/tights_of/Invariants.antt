use Rattle.std.proofs.Common.{take}
use Rattle.hls_report_text.specs.Content.{content_of}
use Rattle.hls_view_tights.specs.Tights.{AreLeast}
use Rattle.hls_view_tights.proofs.tights.tights_of.Given as goal

abbrev pub invariant-loop-row : goal.invariant-loop-row
invariant-loop-row l = AreLeast (content_of l.report) l.scale l.margins.items (take l.row-index l.rows) l.all.items

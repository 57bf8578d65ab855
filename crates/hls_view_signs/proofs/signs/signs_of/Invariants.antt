use Rattle.std.proofs.Common.{take}
use Rattle.hls_report_text.specs.Content.{content_of}
use Rattle.hls_view_signs.specs.Signs.{AreSigns}
use Rattle.hls_view_signs.proofs.signs.signs_of.Given as goal

abbrev pub invariant-loop-row : goal.invariant-loop-row
invariant-loop-row l = AreSigns (content_of l.report) l.scale (take l.row-index l.rows) l.all.items

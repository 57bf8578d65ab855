use Rattle.std.proofs.Common.{take}
use Rattle.hls_report_text.specs.Content.{content_of}
use Rattle.hls_view_signs.specs.Inside.Moments.{AreMomentsOf, IsGathering}
use Rattle.hls_view_signs.proofs.moments.moments_of.Given as goal

abbrev pub invariant-loop-at : goal.invariant-loop-at
invariant-loop-at l = record {
  gathering : IsGathering l.report l.gathering;
  moments : AreMomentsOf (content_of l.report) l.scale (take l.at l.notes.items) l.gathering.moments.items;
}

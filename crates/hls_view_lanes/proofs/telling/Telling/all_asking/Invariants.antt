use Rattle.std.proofs.Common.{◌≡◌, map, take}
use Rattle.hls_report_text.specs.Content.{content_of}
use Rattle.hls_view_lanes.specs.Facts.{way_asks}
use Rattle.hls_view_lanes.specs.Inside.Telling.{IsTellingOf}
use Rattle.hls_view_lanes.proofs.telling.Telling.all_asking.Given as goal

abbrev pub invariant-loop-place : goal.invariant-loop-place
invariant-loop-place l = record {
  telling : IsTellingOf l.report l.fn.self.rows.items l.fn.self.present.ways.items l.self;
  asking : l.asking.items
      ≡ map (way_asks (content_of l.report) l.tick) (take l.place l.fn.self.present.ways.items);
}

use Rattle.std.proofs.Common.{◌≡◌, ◌-◌}
use Rattle.hls_report_text.specs.Content.{content_of}
use Rattle.hls_view_lanes.specs.Inside.Telling.{IsTelling, tallies}
use Rattle.hls_view_lanes.proofs.telling.Telling.tallies.Given as goal

abbrev pub invariant-loop-tick : goal.invariant-loop-tick
invariant-loop-tick l = record {
  telling : IsTelling l.report l.fn.self.rows.items l.self;
  tallies : l.tallies.items ≡ tallies (content_of l.report) l.fn.self.rows.items l.from (l.tick - l.from);
}

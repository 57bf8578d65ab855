use Rattle.std.proofs.Common.{◌≡◌, ◌+◌, ◌-◌, map, length}
use Rattle.std.specs.List.{range_with_len}
use Rattle.hls_report_text.specs.Content.{content_of}
use Rattle.hls_view_timeline.specs.Taken.{taken_at}
use Rattle.hls_view_timeline.proofs.readings.Readings.taken_in.Given as goal

abbrev pub invariant-loop-tick : goal.invariant-loop-tick
invariant-loop-tick l = record {
  long : l.account.from + length l.all.items ≡ l.tick;
  taken : l.all.items
      ≡ map (taken_at (content_of l.report) l.ways) (range_with_len l.account.from (l.tick - l.account.from));
}

use Rattle.std.proofs.Common.{◌≡◌, ◌-◌, map}
use Rattle.hls_report_text.specs.Content.{content_of}
use Rattle.hls_view_tale.specs.Places.{labels_of}
use Rattle.hls_view_tale.specs.Following.{IsFollowing}
use Rattle.hls_view_lanes.specs.Rows.{rows_of}
use Rattle.hls_view_lanes.specs.Inside.Kept.{HaveRows}
use Rattle.hls_view_lanes.proofs.lanes.rows_between.Given as goal

abbrev pub invariant-loop-tick : goal.invariant-loop-tick
invariant-loop-tick l = record {
  rows : l.rows.items ≡ rows_of (content_of l.report) l.from (l.tick - l.from);
  following : IsFollowing (content_of l.report) l.following;
  have : HaveRows l.rows.items (map labels_of l.following.hierarchy.places.items);
}

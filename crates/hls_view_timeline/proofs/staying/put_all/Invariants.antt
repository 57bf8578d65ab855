use Rattle.std.proofs.Common.{◌≡◌, ◌++◌, take, flat_map}
use Rattle.hls_report_text.specs.Content.{content_of}
use Rattle.hls_view_timeline.specs.Staying.{account_events}
use Rattle.hls_view_timeline.specs.Inside.Readings.{AreReadings}
use Rattle.hls_view_timeline.proofs.staying.put_all.Given as goal

abbrev pub invariant-loop-account : goal.invariant-loop-account
invariant-loop-account l = record {
  readings : AreReadings l.shown.report.now l.readings;
  events : l.events.items ≡ l.fn.events.items
      ++ flat_map (account_events (content_of l.shown.report.now) l.shown.rows.now) (take l.account-index l.accounts);
}

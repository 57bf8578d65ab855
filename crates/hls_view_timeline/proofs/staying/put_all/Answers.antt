use Rattle.hls_report_text.specs.Content.{content_of}
use Rattle.hls_view_timeline.specs.Staying.{account_events}
use Rattle.hls_view_timeline.proofs.Steps.{add_item}
use Rattle.hls_view_timeline.proofs.staying.put_all.Goals as goal

pub loop-account-preserved : goal.loop-account-preserved
loop-account-preserved c = record {
  readings = c.in_ok-put_account.ensures.readings;
  events = add_item (account_events (content_of c.args.shown.now.report.now) c.args.shown.now.rows.now)
      c.args.accounts.now c.loop-account.account-index c.account-item.result c.args.events.now.items
      c.loop-account.events.items c.put_account.new.events.items c.loop-account-test.true c.account-item.is
      c.in_ok-put_account.ensures.events c.loop-account.invariant.events;
}

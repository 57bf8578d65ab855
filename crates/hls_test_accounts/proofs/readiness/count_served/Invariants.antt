use Rattle.std.proofs.Common.{◌≡◌, ◌≤◌}
use Rattle.hls_chron.specs.Ticks.{count}
use Rattle.hls_report_text.specs.Content.{content_of}
use Rattle.hls_legal.specs.Schedule.{is_served}
use Rattle.hls_test_accounts.proofs.readiness.count_served.Given as goal

abbrev pub invariant-loop-k : goal.invariant-loop-k
invariant-loop-k l = record {
  counted : l.counted ≡ count (is_served (content_of l.report).stretches l.name) l.from l.k;
  few : l.counted ≤ l.k;
}

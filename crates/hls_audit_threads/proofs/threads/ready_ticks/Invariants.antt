use Rattle.std.proofs.Common.{length}
use Rattle.hls_report_text.specs.Content.{content_of}
use Rattle.hls_legal.specs.Schedule.{is_served}
use Rattle.hls_audit_threads.proofs.ChainLaws.{left_behind}
use Rattle.hls_audit_threads.proofs.LineLaws.{IsFilling}
use Rattle.hls_audit_threads.proofs.threads.ready_ticks.Given as goal

abbrev pub invariant-loop-next : goal.invariant-loop-next
invariant-loop-next l =
    IsFilling l.report.answered l.lookup.roused.items l.name (is_served (content_of l.report).stretches l.name)
    l.report.horizon l.since l.ready.spans.items l.readiness l.next

abbrev pub decreases-loop-next : goal.decreases-loop-next
decreases-loop-next l = left_behind (length l.report.answered) l.next

use Rattle.std.proofs.Common.{length}
use Rattle.hls_audit_threads.proofs.ChainLaws.{left_behind}
use Rattle.hls_audit_threads.proofs.MarkedLaws.{IsServing}
use Rattle.hls_audit_threads.proofs.threads.served_ticks.Given as goal

abbrev pub invariant-loop-next : goal.invariant-loop-next
invariant-loop-next l = IsServing l.report l.lookup.served.items l.name l.served.spans.items l.next

abbrev pub decreases-loop-next : goal.decreases-loop-next
decreases-loop-next l = left_behind (length l.report.runs) l.next

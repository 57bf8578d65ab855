use Rattle.std.proofs.Common.{map, filter, take}
use Rattle.hls_report_text.specs.Content.{content_of}
use Rattle.hls_audit_stays.specs.Found.{stay_by}
use Rattle.hls_audit_threads.specs.Inside.KnownThreads.{AreKnown}
use Rattle.hls_audit_threads.specs.Inside.StayFindings.{has_tick}
use Rattle.hls_view_margins.specs.Margins.{AreMargins}
use Rattle.hls_view_margins.proofs.stays.margins_of.Given as goal

abbrev pub invariant-loop-found : goal.invariant-loop-found
invariant-loop-found l = record {
  known : AreKnown (content_of l.report) l.known;
  margins : AreMargins (content_of l.report)
      (filter (has_tick (content_of l.report)) (take l.found-index (map (stay_by l.report.answered) l.stays)))
      l.margins.items;
}

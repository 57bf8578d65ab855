use Rattle.std.proofs.Common.{map}
use Rattle.hls_report_text.specs.Content.{content_of}
use Rattle.hls_audit_stays.specs.Found.{stay_by}
use Rattle.hls_audit_threads.specs.Inside.KnownThreads.{AreKnown}
use Rattle.hls_audit_threads.proofs.Found.{IsFound}
use Rattle.hls_audit_threads.proofs.stay_findings.StayFindings.of.Given as goal

abbrev pub invariant-loop-found : goal.invariant-loop-found
invariant-loop-found l = record {
  known : AreKnown (content_of l.report) l.known;
  found : IsFound (content_of l.report) (map (stay_by l.report.answered) l.stays) l.found-index l.findings;
}

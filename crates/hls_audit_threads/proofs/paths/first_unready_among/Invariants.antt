use Rattle.hls_report_text.specs.Content.{content_of}
use Rattle.hls_audit_watch.specs.First.{FirstAt}
use Rattle.hls_audit_threads.specs.Inside.KnownThreads.{AreKnown}
use Rattle.hls_audit_threads.specs.Inside.Unready.{IsUnready}
use Rattle.hls_audit_threads.proofs.EachStay.{HasEarly}
use Rattle.hls_audit_threads.proofs.paths.first_unready_among.Given as goal

abbrev pub invariant-loop-name : goal.invariant-loop-name
invariant-loop-name l = record {
  known : AreKnown (content_of l.report) l.known;
  first : FirstAt (λ t. HasEarly (IsUnready (content_of l.report) t) l.names l.name-index) l.first;
}

-- What is found of the threads of a report as it is asked for.
use Rattle.hls_report_text.specs.declared.report.Report.{Report}
use Rattle.hls_report_text.specs.Content.{content_of}
use Rattle.hls_audit_threads.specs.Inside.Lookups.{IsLookup}
use Rattle.hls_audit_threads.specs.Inside.KnownThreads.{AreKnown}
use Rattle.hls_view_signs.specs.Inside.Heard.{AreHeard}
use Rattle.hls_view_signs.specs.declared.sources.Sources.{Sources}

pub record AreSources (r : Report) (s : Sources) : Type 0 where
  pub lookup : IsLookup r s.lookup
  pub known : AreKnown (content_of r) s.known
  pub heard : AreHeard (content_of r) s.heard.items

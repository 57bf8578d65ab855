-- What is found of a report as it is asked for.
use Rattle.hls_report_text.specs.declared.report.Report.{Report}
use Rattle.hls_report_text.specs.Content.{content_of}
use Rattle.hls_audit_threads.specs.Inside.Lookups.{IsLookup}
use Rattle.hls_audit_threads.specs.Inside.KnownThreads.{AreKnown}
use Rattle.hls_view_timeline.specs.declared.readings.Readings.{Readings}
use Rattle.hls_view_timeline.specs.Inside.Paths.{ArePaths}

pub record AreReadings (r : Report) (readings : Readings) : Type 0 where
  pub lookup : IsLookup r readings.lookup
  pub known : AreKnown (content_of r) readings.known
  pub paths : ArePaths (content_of r) r.names r.horizon readings.paths.items

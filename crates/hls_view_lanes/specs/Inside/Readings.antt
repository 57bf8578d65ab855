-- What is found of a report as it is asked for.
use Rattle.hls_report_text.specs.declared.report.Report.{Report}
use Rattle.hls_report_text.specs.Content.{content_of}
use Rattle.hls_audit_threads.specs.Inside.Lookups.{IsLookup}
use Rattle.hls_audit_threads.specs.Inside.KnownThreads.{AreKnown}
use Rattle.hls_view_lanes.specs.declared.readings.Readings.{Readings}
use Rattle.hls_view_lanes.specs.Inside.Paths.{AreRuns}

pub record AreReadings (r : Report) (readings : Readings) : Type 0 where
  pub lookup : IsLookup r readings.lookup
  pub known : AreKnown (content_of r) readings.known
  pub runs : AreRuns r.runs r.horizon readings.runs.items

use Rattle.hls_view_timeline.proofs.readings.Readings.of.Goals as goal

pub returns : goal.returns
returns c = record {
  lookup = c.in_ok-of.ensures;
  known = c.new.ensures c.args.report.now;
  paths = c.in_ok-paths_of.ensures;
}

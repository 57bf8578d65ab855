use Rattle.hls_view_lanes.proofs.readings.Readings.of.Goals as goal

pub returns : goal.returns
returns c = record {
  lookup = c.in_ok-of.ensures;
  known = c.new.ensures c.args.report.now;
  runs = c.in_ok-runs_of.ensures;
}

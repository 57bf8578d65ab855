use Rattle.hls_manager.specs.Outcomes.{boxes_in}
use Rattle.hls_test_manager.proofs.going_on.settled.Goals as goal

pub finish-requires-clause-runs : goal.finish-requires-clause-runs
finish-requires-clause-runs g c = record {
  s = c.in-Ok.scenario;
  given = 3;
  boxes = boxes_in c.args.kit;
  is = c.in_ok-run_to-in-Ok.ensures.is _ _ _ c.in_ok-core-in-Ok.ensures.is;
}

pub write_report-requires : goal.write_report-requires
write_report-requires g c =
    (c.in_ok-report-in-Ok.ensures c.in-Ok.scenario 3 (boxes_in c.args.kit)
    (c.in_ok-run_to-in-Ok.ensures.is _ _ _ c.in_ok-core-in-Ok.ensures.is)).formed

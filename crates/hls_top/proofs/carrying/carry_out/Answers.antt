use Rattle.hls_manager.specs.Outcomes.{boxes_in}
use Rattle.hls_top.proofs.Cores.{legal_if_ok}
use Rattle.hls_top.proofs.carrying.carry_out.Goals as goal

pub finish-requires-clause-runs : goal.finish-requires-clause-runs
finish-requires-clause-runs g c = record {
  s = c.args.scenario;
  given = c.args.depth;
  boxes = boxes_in c.args.kit;
  is = c.in_ok-run_to.ensures.is _ _ _ c.in_ok-core.ensures.is;
}

pub returns : goal.returns
returns g c =
    legal_if_ok _ c.run_to.new.core c.args.scenario c.args.depth (boxes_in c.args.kit) c.finish.result
    (c.in_ok-run_to.ensures.is _ _ _ c.in_ok-core.ensures.is) c.finish.ensures

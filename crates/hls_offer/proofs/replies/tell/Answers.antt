use Rattle.hls_manager.specs.Outcomes.{boxes_in}
use Rattle.hls_offer.proofs.Reached.{told_all}
use Rattle.hls_offer.proofs.replies.tell.Goals as goal

pub returns : goal.returns
returns g c =
    told_all _ c.carry_to.new.core c.args.point.scenario c.given_depth.result (boxes_in c.args.kit)
    (c.in_ok-carry_to.ensures.is _ _ _ c.in_ok-core.ensures.is) c.args.asked.now c.args.point.tick
    c.given_depth.ensures.is
    c.in_ok-carry_to.ensures.now c.in_ok-carry_to.ensures.none c.in_ok-offers.offers c.status_of-status.result
    c.new-bytes.result.items c.put_head.new.out.items c.put_told.new.out.items c.put_end.new.out.items
    c.new-bytes.ensures.items (rw (← c.depth.ensures) c.in_ok-put_head.ensures) c.in_ok-offers.ensures
    c.in_ok-put_end.ensures c.status_of-status.ensures

pub put_told-requires-clause-runs : goal.put_told-requires-clause-runs
put_told-requires-clause-runs g c = record {
  s = c.args.point.scenario;
  given = c.given_depth.result;
  boxes = boxes_in c.args.kit;
  is = c.in_ok-carry_to.ensures.is _ _ _ c.in_ok-core.ensures.is;
}

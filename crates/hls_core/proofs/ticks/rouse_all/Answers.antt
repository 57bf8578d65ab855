use Rattle.std.proofs.Common.{arith}
use Rattle.hls_core.proofs.Rousing.{roused_none, roused_more, roused_all, follow_more, any_stands, place_stands}
use Rattle.hls_core.proofs.Rousing.{rouse_stands}
use Rattle.hls_core.proofs.ticks.rouse_all.Goals as goal

pub threads-at-end-requires : goal.threads-at-end-requires
threads-at-end-requires g c =
    any_stands _ c.args.bursts.now c.args.now c.args.tree.now c.args.stays.now c.requires

pub loop-at-init : goal.loop-at-init
loop-at-init g c = record {
  roused = roused_none _ c.args.bursts.now c.args.now c.args.tree.now;
  follow = λ h tree listed stays. stays;
}

pub thread-id-requires : goal.thread-id-requires
thread-id-requires g c =
    place_stands _ c.args.bursts.now c.args.now c.args.tree.now c.loop-at.tree c.args.stays.now c.loop-at.at
    c.threads-at-end.result c.requires c.loop-at.invariant.roused c.loop-at-test.true c.threads-at-end.ensures

pub rouse_due-requires : goal.rouse_due-requires
rouse_due-requires g c =
    rouse_stands _ c.args.bursts.now c.args.now c.args.tree.now c.loop-at.tree c.args.stays.now c.loop-at.stays
    c.loop-at.at c.thread-id.result c.requires c.loop-at.invariant.roused c.thread-id.ensures
    c.loop-at.invariant.follow

pub loop-at-preserved : goal.loop-at-preserved
loop-at-preserved g c = record {
  roused =
      roused_more _ c.args.bursts.now c.args.now c.args.tree.now c.loop-at.tree c.rouse_due.new.tree c.loop-at.at
      c.thread-id.result c.loop-at.invariant.roused c.thread-id.ensures c.rouse_due.ensures.tree
      c.rouse_due.ensures.here c.rouse_due.ensures.others c.rouse_due.ensures.horizon;
  follow =
      follow_more _ c.args.bursts.now c.args.now c.args.tree.now c.loop-at.tree c.rouse_due.new.tree c.args.stays.now
      c.loop-at.stays c.rouse_due.new.stays c.loop-at.at c.thread-id.result c.loop-at.invariant.roused
      c.thread-id.ensures c.rouse_due.ensures.stays c.loop-at.invariant.follow;
}

pub returns-clause-tree : goal.returns-clause-tree
returns-clause-tree g c = c.loop-at.invariant.roused.tree

pub returns-clause-flags : goal.returns-clause-flags
returns-clause-flags g c =
    roused_all _ c.args.bursts.now c.args.now c.args.tree.now c.loop-at.tree c.loop-at.at c.loop-at.invariant.roused
    (λ h tree. (let many = c.threads-at-end.ensures h tree in omega (arith, many, c.loop-at-test.false)))

pub returns-clause-stays : goal.returns-clause-stays
returns-clause-stays g c = c.loop-at.invariant.follow

pub returns-clause-horizon : goal.returns-clause-horizon
returns-clause-horizon g c = c.loop-at.invariant.roused.horizon

use Rattle.std.proofs.Common.{arith}
use Rattle.hls_manager.proofs.Outcomes.{stands_so}
use Rattle.hls_offer.proofs.Lines.{none_yet, one_more, all_told, listed_loaded}
use Rattle.hls_offer.proofs.spare.put_spare.Goals as goal

pub loop-at-init : goal.loop-at-init
loop-at-init g c = none_yet _ c.args.version c.args.tree.now c.args.periods.now c.args.out.now.items

pub put_one-requires : goal.put_one-requires
put_one-requires g c = record {
  stands = stands_so _ c.args.tree.now _ _ c.requires.stands (λ h tree seated listed is.
      (is, listed_loaded h listed c.loop-at.at c.sched-id.result (c.sched-id.ensures h tree)));
}

pub loop-at-preserved : goal.loop-at-preserved
loop-at-preserved g c =
    one_more _ c.args.version c.args.tree.now c.args.periods.now c.loop-at.at c.sched-id.result c.args.out.now.items
    c.loop-at.out.items c.put_one.new.out.items (λ h tree. c.sched-id.ensures h tree) c.loop-at.invariant
    c.in_ok-put_one.ensures

pub returns : goal.returns
returns g c =
    all_told _ c.args.version c.args.tree.now c.args.periods.now c.loop-at.at c.args.out.now.items c.loop-at.out.items
    (λ h tree. (let count = c.scheds-at-end.ensures h tree in let past = c.loop-at-test.false in
    omega (arith, count, past))) c.loop-at.invariant

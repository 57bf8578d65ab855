use Rattle.std.proofs.Common.{◌∙◌, refl, length}
use Rattle.hls_audit.proofs.Abreast.{underway, underway_more, abreast_at, abreast_all}
use Rattle.hls_audit.proofs.leading.follow_tick.Goals as goal

pub loop-at-init : goal.loop-at-init
loop-at-init c = record {
  underway =
      underway c.args.answered.now c.args.tick c.args.from c.args.tree.now.members.items c.requires.abreast;
  same = λ e. refl;
}

pub returns-then-tick-a : goal.returns-then-tick-a
returns-then-tick-a c = (
  abreast_at c.args.answered.now c.args.tick c.loop-at.at c.index-answered-at.result c.loop-at.tree.members.items
      c.requires.order c.loop-at-test.true c.index-answered-at.is c.if-tick-a.true c.loop-at.invariant.underway,
  c.loop-at.invariant.same,
)

pub loop-at-preserved : goal.loop-at-preserved
loop-at-preserved c = record {
  underway = underway_more c.args.answered.now c.args.tick c.loop-at.at c.index-answered-at.result
      c.loop-at.tree.members.items c.follow.new.self.members.items c.loop-at-test.true c.index-answered-at.is
      c.if-tick-a.false c.in_ok-follow.ensures c.loop-at.invariant.underway;
  same = λ e.
      let stays = c.stays_same-is_same.ensures e in
      c.in_ok-follow.ensures ∙ stays.1 c.loop-at.tree.members.items ∙ c.loop-at.invariant.same stays.0;
}

pub returns : goal.returns
returns c = (
  abreast_all c.args.answered.now c.args.tick c.loop-at.at (length c.args.answered.now) c.loop-at.tree.members.items
      refl c.loop-at-test.false c.loop-at.invariant.underway,
  c.loop-at.invariant.same,
)

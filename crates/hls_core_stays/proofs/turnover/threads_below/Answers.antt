use Rattle.std.proofs.Common.{arith}
use Rattle.hls_core_stays.proofs.Under.{any_stands, under_next, under_skip, under_all}
use Rattle.hls_core_stays.proofs.turnover.threads_below.Goals as goal

pub is_in_near-requires : goal.is_in_near-requires
is_in_near-requires g c = any_stands _ c.args.tree.now c.args.id c.requires

pub loop-at-preserved-then-not-is_in_near : goal.loop-at-preserved-then-not-is_in_near
loop-at-preserved-then-not-is_in_near g c = λ h below tree tells.
    under_skip h below c.args.id c.loop-at.at c.thread-thread.result c.loop-at.threads.items tells
    (c.thread-thread.ensures h tree)
    (c.is_in_near.ensures.no c.if-not-is_in_near.true h c.args.id tree (c.subtree-subtree.ensures h tree))
    (c.loop-at.invariant h below tree tells)

pub loop-at-preserved : goal.loop-at-preserved
loop-at-preserved g c = λ h below tree tells.
    under_next h below c.args.id c.loop-at.at c.thread-thread.result c.loop-at.threads.items _ tells
    (c.thread-thread.ensures h tree)
    (c.is_in_near.ensures.yes c.if-not-is_in_near.false h c.args.id tree (c.subtree-subtree.ensures h tree))
    (c.loop-at.invariant h below tree tells) c.in_ok-push.ensures.items

pub returns : goal.returns
returns g c = λ h tree below tells.
    let many = c.threads-at-end.ensures h tree in
    under_all h below c.loop-at.at c.loop-at.threads.items (omega (arith, many, c.loop-at-test.false))
    (c.loop-at.invariant h below tree tells)

use Rattle.hls_view_tale.proofs.Stacks.{found_more, gone_fewer}
use Rattle.hls_view_tale.specs.Inside.Pending.{gone_into_all}
use Rattle.hls_view_tale.proofs.walking.all_of.Goals as goal

pub loop-next-smaller : goal.loop-next-smaller
loop-next-smaller c =
    gone_fewer c.args.members.now c.loop-next.stack.items c.pop.new.self.items c.push_below.new.stack.items
    c.in-Some.next c.in-Some.ensures.items c.in_ok-push_below.ensures

pub loop-next-preserved : goal.loop-next-preserved
loop-next-preserved c =
    found_more c.args.members.now c.loop-next.found.items c.push.new.self.items c.loop-next.stack.items
    c.pop.new.self.items c.push_below.new.stack.items c.in-Some.next
    (gone_into_all c.args.members.now c.args.stack.items) c.in-Some.ensures.items c.in_ok-push_below.ensures
    c.in_ok-push.ensures.items c.loop-next.invariant

use Rattle.std.proofs.Common.{refl, arith}
use Rattle.hls_core_stays.proofs.Turned.{few_idle, tick_at, tick_idle, ticks_still, may_still}
use Rattle.hls_core_stays.proofs.stays.Stays.tick.Goals as goal

pub serve-requires : goal.serve-requires
serve-requires g c =
    tick_at _ c.settle.new.self c.args.tree.now c.args.thread c.in-Some.id c.args.ticks c.in-Some.is
    (may_still _ c.args.self.now c.args.tree.now c.settle.new.self c.args.thread c.args.ticks c.settle.ensures
    c.requires)

pub overflow_add-self : goal.overflow_add-self
overflow_add-self g c =
    let few = few_idle _ c.settle.new.self c.args.tree.now c.args.thread c.args.ticks
    (may_still _ c.args.self.now c.args.tree.now c.settle.new.self c.args.thread c.args.ticks c.settle.ensures
    c.requires) in
    omega (arith, few)

pub returns-in-None : goal.returns-in-None
returns-in-None g c = λ h asking masks path ticks.
    tick_idle _ c.settle.new.self c.args.tree.now c.args.thread c.args.ticks h asking masks path
    (ticks_still _ c.args.self.now c.args.tree.now c.settle.new.self c.args.thread c.args.ticks h asking masks path
    c.settle.ensures ticks) _ c.in-None.is refl refl

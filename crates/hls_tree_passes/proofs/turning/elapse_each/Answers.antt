use Rattle.std.proofs.Common.{sym, subst}
use Rattle.hls_tree_nodes.specs.Late.{IsQuiet, AreQuiet}
use Rattle.hls_tree_passes.proofs.Elapses.{each_both, each_from, quiet_past, far_lags, far_posted, far_stands}
use Rattle.hls_tree_passes.proofs.turning.elapse_each.Goals as goal

pub elapse_from-requires-clause-lags : goal.elapse_from-requires-clause-lags
elapse_from-requires-clause-lags g c = far_lags (λ b. (goal.Scheduler-dyn g (b.vtable, b.value)).seen b.value)
    (λ b. (goal.Scheduler-dyn g (b.vtable, b.value)).choice b.value) c.args.ticks c.args.schedulers.now c.args.nodes.now
    c.elapse_near.new.nodes c.elapse_near.ensures.same c.elapse_near.ensures.far c.requires.late

pub elapse_from-requires-clause-posted : goal.elapse_from-requires-clause-posted
elapse_from-requires-clause-posted g c = far_posted (λ b. (goal.Scheduler-dyn g (b.vtable, b.value)).seen b.value)
    (λ b. (goal.Scheduler-dyn g (b.vtable, b.value)).choice b.value) c.args.ticks c.args.schedulers.now c.args.nodes.now
    c.elapse_near.new.nodes c.elapse_near.ensures.same c.elapse_near.ensures.far c.requires.posted

pub elapse_from-requires-clause-stands : goal.elapse_from-requires-clause-stands
elapse_from-requires-clause-stands g c =
    λ more. far_stands (λ b. (goal.Scheduler-dyn g (b.vtable, b.value)).seen b.value)
    (λ b. (goal.Scheduler-dyn g (b.vtable, b.value)).choice b.value) c.args.ticks c.args.schedulers.now c.args.nodes.now
    c.elapse_near.new.nodes c.elapse_near.ensures.same c.elapse_near.ensures.far (c.requires.stands more)

pub returns-in-Some-clause-each : goal.returns-in-Some-clause-each
returns-in-Some-clause-each g c =
    let quiet : IsQuiet (λ b. (goal.Scheduler-dyn g (b.vtable, b.value)).seen b.value)
    c.args.nodes.now c.args.schedulers.now c.in-Some.known.voices =
    subst (AreQuiet (λ b. (goal.Scheduler-dyn g (b.vtable, b.value)).seen b.value) c.args.nodes.now
    c.args.schedulers.now)
    c.in-Some.is c.requires.quiet in
    each_both (λ b. (goal.Scheduler-dyn g (b.vtable, b.value)).seen b.value)
    (λ b. (goal.Scheduler-dyn g (b.vtable, b.value)).choice b.value) c.args.ticks c.args.schedulers.now c.args.nodes.now
    c.elapse_near.new.nodes c.elapse_from.new.nodes c.requires.roll.once quiet.behind c.elapse_near.ensures.same
    c.elapse_near.ensures.near c.elapse_near.ensures.far c.elapse_from.ensures.from c.elapse_from.ensures.others

pub returns-in-Some-clause-quiet : goal.returns-in-Some-clause-quiet
returns-in-Some-clause-quiet g c =
    subst (AreQuiet (λ b. (goal.Scheduler-dyn g (b.vtable, b.value)).seen b.value) c.elapse_from.new.nodes
    c.args.schedulers.now) (sym c.in-Some.is)
    (quiet_past (λ b. (goal.Scheduler-dyn g (b.vtable, b.value)).seen b.value)
    (λ b. (goal.Scheduler-dyn g (b.vtable, b.value)).choice b.value) c.args.ticks c.args.schedulers.now
    c.in-Some.known.voices c.elapse_near.new.nodes c.elapse_from.new.nodes c.requires.roll.once
    c.elapse_near.ensures.quiet c.elapse_from.ensures.others c.elapse_from.ensures.same c.elapse_from.ensures.quiet)

pub returns-in-None-clause-each : goal.returns-in-None-clause-each
returns-in-None-clause-each g c = each_from (λ b. (goal.Scheduler-dyn g (b.vtable, b.value)).seen b.value)
    (λ b. (goal.Scheduler-dyn g (b.vtable, b.value)).choice b.value) c.args.ticks c.args.schedulers.now c.args.nodes.now
    c.elapse_from-in-None.new.nodes c.requires.roll c.elapse_from-in-None.ensures.from
    c.elapse_from-in-None.ensures.others

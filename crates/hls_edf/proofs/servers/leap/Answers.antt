use Rattle.std.proofs.Common.{false}
use Rattle.hls_edf.proofs.LeapCalm.{calm_leapt}
use Rattle.hls_edf.proofs.servers.leap.Goals as goal

pub returns-then-not-taken-clause-calm : goal.returns-then-not-taken-clause-calm
returns-then-not-taken-clause-calm c = λ t before.
    rw c.if-not-taken.true (c.pass_free.ensures.calm t c.args.asks before)

pub returns-then-asks-clause-calm : goal.returns-then-asks-clause-calm
returns-then-asks-clause-calm c = λ t before.
    calm_leapt c.args.server.now c.replenish.new.server c.args.taken c.args.asks false c.args.now c.args.ticks t
    c.if-not-taken.false c.replenish.ensures (λ on. before)

pub returns-else-asks-clause-calm : goal.returns-else-asks-clause-calm
returns-else-asks-clause-calm c = λ t before.
    calm_leapt c.args.server.now c.replenish.new.server c.args.taken c.args.asks false c.args.now c.args.ticks t
    c.if-not-taken.false c.replenish.ensures (λ on. absurd (let off = c.if-asks.false in cc))

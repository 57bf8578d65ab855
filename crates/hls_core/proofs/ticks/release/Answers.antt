use Rattle.std.proofs.Common.{sym, ap, true, cond}
use Rattle.hls_tree.specs.Trees.{ready_of}
use Rattle.hls_core.specs.Bursts.{begun_in}
use Rattle.hls_core.proofs.Wakes.{undue}
use Rattle.hls_core.proofs.ticks.release.Goals as goal

pub returns-then-not-comes_in-clause-flags : goal.returns-then-not-comes_in-clause-flags
returns-then-not-comes_in-clause-flags g c = λ h tree listed k t there.
    sym (ap (λ b. cond b true (ready_of (λ z. (goal.Scheduler-dyn g z).seen z.1) c.args.tree.now k))
    (c.requires.none (c.comes_in.ensures c.if-not-comes_in.true) k))

pub returns-then-not-comes_in-clause-begun : goal.returns-then-not-comes_in-clause-begun
returns-then-not-comes_in-clause-begun g c = λ k.
    sym (undue c.args.now (begun_in c.args.bursts.now k)
    (c.requires.none (c.comes_in.ensures c.if-not-comes_in.true) k))

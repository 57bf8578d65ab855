use Rattle.std.proofs.Common.{arith, refl}
use Rattle.hls_tree_nodes.proofs.Idle.{leaping_start, leaping_step, leaping_end, may_go_on}
use Rattle.hls_tree_nodes.proofs.station.leap_idle.Goals as goal

pub loop-left-init : goal.loop-left-init
loop-left-init g c = leaping_start _ _

pub leap-requires : goal.leap-requires
leap-requires g c =
    let least = c.min-step.ensures in
    let may = may_go_on _ _ _ _ _ c.min-step.result c.requires.configured c.requires.idle c.requires.free
    c.requires.room (omega (arith, least)) (omega (arith, least)) c.loop-left.invariant in
    let some = c.loop-left-test.true in
    record {
      configured = may.configured;
      some = omega (arith, least, some);
      stands = may.stands;
      room = may.room;
    }

pub loop-left-preserved : goal.loop-left-preserved
loop-left-preserved g c =
    let least = c.min-step.ensures in
    leaping_step _ _ _ _ _ _ c.min-step.result _ c.requires.free (omega (arith, least)) refl c.loop-left.invariant
    c.leap.ensures

pub returns : goal.returns
returns g c = leaping_end _ _ _ _ (omega (arith, c.loop-left-test.false)) c.loop-left.invariant

use Rattle.std.proofs.Common.{arith}
use Rattle.hls_tree_nodes.proofs.Late.{stays_then}
use Rattle.hls_tree_passes.proofs.Tells.{first_port, next_port, ports_end}
use Rattle.hls_tree_passes.proofs.asking.tell_ports.Goals as goal

pub voice_at-asks-requires : goal.voice_at-asks-requires
voice_at-asks-requires g c = record {
  posted = c.requires.posted c.args.key;
  few = c.requires.laid.ranked.ports c.args.key;
  late = c.requires.late;
}

pub loop-port-init : goal.loop-port-init
loop-port-init g c = record {
  at = first_port _ _ _ _ _ c.requires.laid c.requires.posted c.voice_at-asks.ensures.asks
      c.voice_at-asks.ensures.first c.tell_slot.ensures.told;
  late = c.tell_slot.ensures.late;
}

pub tell_port-requires : goal.tell_port-requires
tell_port-requires g c = record {
  laid = c.loop-port.invariant.at.laid;
  posted = c.loop-port.invariant.at.posted;
  late = c.loop-port.invariant.late.late;
}

pub loop-port-preserved : goal.loop-port-preserved
loop-port-preserved g c = record {
  at = next_port _ _ _ _ _ _ c.loop-port.invariant.at c.tell_port.ensures.told;
  late = stays_then (λ b. (goal.Scheduler-dyn g (b.vtable, b.value)).seen b.value) _ _ _
      c.loop-port.invariant.late c.tell_port.ensures.late;
}

pub returns : goal.returns
returns g c = record {
  tells = ports_end _ _ _ _ _ c.loop-port.invariant.at
      (omega (arith, c.loop-port-test.false, c.voice_at-asks.ensures.ports));
  late = c.loop-port.invariant.late;
}

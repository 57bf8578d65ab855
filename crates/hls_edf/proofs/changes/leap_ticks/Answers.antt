use Rattle.hls_edf.proofs.Calm.{served_next, served_calm}
use Rattle.hls_edf.proofs.changes.leap_ticks.Goals as goal

pub returns-clause-next : goal.returns-clause-next
returns-clause-next c =
    let state = c.args.state.now in
    served_next c.args.servers.now c.leap_slots-until.new.servers c.charge_run.new.servers state.book state.mask
    c.args.run.ticks c.args.run.served c.requires.seated c.charge_run.ensures c.leap_slots-until.ensures.next

pub returns-clause-calm : goal.returns-clause-calm
returns-clause-calm c =
    let state = c.args.state.now in
    served_calm c.args.servers.now c.leap_slots-until.new.servers c.charge_run.new.servers state.book state.mask
    c.args.run.ticks c.args.run.served c.requires.seated c.charge_run.ensures c.leap_slots-until.result
    c.leap_slots-until.ensures.calm

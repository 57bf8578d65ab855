use Rattle.std.proofs.Common.{refl}
use Rattle.hls_chron.specs.Seats.{most_seats}
use Rattle.hls_sched.specs.Seen.{config_of}
use Rattle.hls_kinds.specs.declared.fault.SeatFault.TheVariants.{Full}
use Rattle.hls_tree_nodes.proofs.station.Station.seat.Goals as goal

pub unreachable-requires : goal.unreachable-requires
unreachable-requires g c = c.requires.may.fits
    (Full (most_seats (config_of ((goal.Scheduler-dyn g
    (c.args.self.now.unit.vtable, c.args.self.now.unit.value)).seen c.args.self.now.unit.value))))
    (c.in-None.ensures.full refl, refl)

use Rattle.std.proofs.Common.{sym, subst}
use Rattle.hls_report.proofs.CommandSteps.{SeatsRead, one_more_seat, seat_shorter, seats_room, seats_passed}
use Rattle.hls_report.proofs.command_reading.seats.Goals as goal

pub next_seat-requires : goal.next_seat-requires
next_seat-requires c =
    seats_room c.args.command.now c.loop-seats.seats.items c.args.lines.now c.loop-seats.lines
    c.loop-seats.invariant c.requires

pub loop-seats-smaller : goal.loop-seats-smaller
loop-seats-smaller c =
    seat_shorter c.args.command.now c.in-Some.seat c.loop-seats.lines c.next_seat.new.lines
    (rw c.in-Some.is at c.in_ok-seat.ensures)

pub loop-seats-preserved : goal.loop-seats-preserved
loop-seats-preserved c =
    subst (λ seats. SeatsRead c.args.command.now seats c.args.lines.now c.next_seat.new.lines)
    (sym c.in_ok-keep_seat.ensures)
    (one_more_seat c.args.command.now c.loop-seats.seats.items c.in-Some.seat c.args.lines.now
    c.loop-seats.lines c.next_seat.new.lines c.loop-seats.invariant (rw c.in-Some.is at c.in_ok-seat.ensures))

pub returns : goal.returns
returns c = (
  c.loop-seats.invariant.are,
  seats_passed c.args.command.now c.loop-seats.seats.items c.args.lines.now c.loop-seats.lines
      c.next_seat.new.lines c.loop-seats.invariant (rw c.in_default.is at c.in_ok-seat.ensures),
)

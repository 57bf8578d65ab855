use Rattle.std.proofs.Common.{refl}
use Rattle.hls_audit_stays.proofs.SeatLaws.{seats_note}
use Rattle.hls_audit_stays.proofs.seats.Seats.note.Goals as goal

pub returns : goal.returns
returns c =
    seats_note c.args.self.now c.learn_seats.new.self _ c.args.answered.now c.args.place c.args.a.now c.args.name.now
    c.requires.there c.requires.done c.requires.seats c.in_ok-learn_seats.ensures c.in_ok-set.ensures refl refl

use Rattle.hls_audit_stays.proofs.SeatLaws.{seats_start}
use Rattle.hls_audit_stays.proofs.seats.Seats.new.Goals as goal

pub returns : goal.returns
returns c = λ all. seats_start _ all c.new.ensures c.new-3.ensures

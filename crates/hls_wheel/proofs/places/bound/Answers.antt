use Rattle.std.proofs.Common.{arith}
use Rattle.hls_wheel.proofs.Tops.{terms_free, others_free}
use Rattle.hls_wheel.proofs.places.bound.Goals as goal

pub returns-in-Seat : goal.returns-in-Seat
returns-in-Seat c = record {
  bound = λ owners after free is.
      terms_free owners after c.in-Seat.slot c.places_of.result c.args.top c.saturating_add.result c.in-Seat.terms
      c.places_of.ensures.slots free c.saturating_add.ensures (rw c.in-Seat.is at is);
}

pub returns-in_default : goal.returns-in_default
returns-in_default c = record {
  bound = λ owners after free is.
      others_free owners after c.args.top c.args.top c.args.event free (λ slot places. c.in_default.not-Seat slot _) is
      (λ early. omega arith);
}

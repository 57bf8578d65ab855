use Rattle.std.proofs.Common.{◌≡◌, ◌∷◌, ◌++◌, ap, ◌∙◌, refl, sym, subst, true, false}
use Rattle.hls_report_text.specs.WellFormed.{IsOneLine}
use Rattle.hls_report.proofs.CommandSteps.{no_seat_comes, seat_comes}
use Rattle.hls_report.proofs.LineReadings.{none_some}
use Rattle.hls_text.proofs.Marks.{cut_same}
use Rattle.hls_report.proofs.Stuck.{has_end}
use Rattle.hls_report.proofs.command_reading.next_seat.Goals as goal

pub returns-then-not-takes_seats : goal.returns-then-not-takes_seats
returns-then-not-takes_seats c =
    no_seat_comes c.args.command.now c.args.lines.now (λ line rest s one e takes is same.
    let f : false ≡ true = c.if-not-takes_seats.ensures.1 takes in cc)

pub returns-in_default : goal.returns-in_default
returns-in_default c =
    no_seat_comes c.args.command.now c.args.lines.now (λ line rest s one e takes is same.
    has_end line rest (subst IsOneLine e c.in_default.ensures.line))

pub returns-in-Some-2 : goal.returns-in-Some-2
returns-in-Some-2 c =
    let s = c.in-Some-2.seat in
    let found = rw c.in-Some-2.is at c.in_ok-seat.ensures.found in
    seat_comes c.args.command.now s c.args.lines.now c.next.new.self
    (c.if-not-takes_seats.ensures.0 refl) found.0
    (subst IsOneLine found.1 c.in-Some.ensures.line.0)
    (c.in-Some.ensures.line.1 ∙ ap (λ t. t ++ (10 ∷ c.next.new.self.rest.now)) found.1)
    c.next.ensures.count

pub returns-in-None : goal.returns-in-None
returns-in-None c =
    no_seat_comes c.args.command.now c.args.lines.now (λ line rest s one e takes is same.
    let here = cut_same 10 c.in-Some.line.now c.next.new.self.rest.now line rest
    (sym c.in-Some.ensures.line.1 ∙ e) c.in-Some.ensures.line.0 one in
    none_some s (rw c.in-None.is at (c.in_ok-seat.ensures.exact s is (here.0 ∙ same))))

use Rattle.std.proofs.Common.{◌≡◌, Some, sym, ◌∙◌, ap}
use Rattle.hls_report_text.specs.declared.report.Seated.{Seated}
use Rattle.hls_report.proofs.LineReadings.{seat_parts, seat_is, no_seat_front}
use Rattle.hls_report.proofs.line_reading.seat.Goals as goal

pub returns-in-Some-2-clause-exact : goal.returns-in-Some-2-clause-exact
returns-in-Some-2-clause-exact c = λ s is e.
    let p = seat_parts s c.args.line.now c.in-Some.front.name c.in-Some.front.port c.in-Some.front.rest.now
    is e
    c.in-Some.ensures.read in
    let found = c.in_ok-derivation-in-Some.ensures.exact s.derivation is.derivation p.rest in
    let same : s.derivation ≡ c.in-Some-2.derivation = cc in
    sym (ap (λ (t : Seated). Some t)
    (seat_is s c.in-Some.front.name c.in-Some.front.port c.in-Some.front.rest.now c.in-Some-2.derivation p
    same))

pub returns-in-None-2-clause-exact : goal.returns-in-None-2-clause-exact
returns-in-None-2-clause-exact c = λ s is e.
    let p = seat_parts s c.args.line.now c.in-Some.front.name c.in-Some.front.port c.in-Some.front.rest.now
    is e
    c.in-Some.ensures.read in
    let found = c.in_ok-derivation-in-Some.ensures.exact s.derivation is.derivation p.rest in
    absurd (let f = sym c.in-None-2.is ∙ found in cc)

pub returns-in-None-clause-exact : goal.returns-in-None-clause-exact
returns-in-None-clause-exact c = λ s is e.
    absurd (no_seat_front s c.args.line.now is e c.in-None.ensures.read)

use Rattle.std.proofs.Common.{◌≡◌, ◌∷◌, ◌++◌, ap, ◌∙◌, sym, subst, true, false}
use Rattle.std.proofs.lemmas.Slice.Eq.{bytes_eq-Decides}
use Rattle.hls_report.specs.declared.fault.ReportFault.TheVariants as faults
use Rattle.hls_report_text.specs.WellFormed.{IsOneLine}
use Rattle.hls_report.specs.Inside.Rests.{AnswerRest}
use Rattle.hls_report.proofs.CommandSteps.{no_answer, done_comes, refused_comes}
use Rattle.hls_report.proofs.LineReadings.{none_some}
use Rattle.hls_report.proofs.RestLaws.{some_answer, no_last_answer}
use Rattle.hls_report.proofs.Stuck.{fail_line, fail_end}
use Rattle.hls_report.proofs.command_reading.answer.Goals as goal

pub returns-in_default-clause-err : goal.returns-in_default-clause-err
returns-in_default-clause-err c = λ v h last left.
    let some = some_answer c.args.command.now v h last left in
    fail_end (AnswerRest c.args.command.now v h last left) c.args.lines.now some.0 c.fault.result some.1
    c.in_default.ensures.line (c.fault.ensures ∙ ap faults.At c.next.ensures.count)
    (no_last_answer c.args.command.now v h last left)

pub returns-then-eq-clause-ok : goal.returns-then-eq-clause-ok
returns-then-eq-clause-ok c =
    let same = (bytes_eq-Decides c.in-Some.line.now c.as_slice.result.now).0 (sym c.if-eq.ensures)
    ∙ c.as_slice.ensures in
    let seats = c.in_ok-seats.seats.items in
    let passes = done_comes c.args.command.now seats c.args.lines.now c.next.new.self c.seats.new.lines
    (c.in-Some.ensures.line.1 ∙ ap (λ t. t ++ (10 ∷ c.next.new.self.rest.now)) same) c.next.ensures.count
    c.in_ok-seats.ensures.1 in
    rw c.of.ensures (c.in_ok-seats.ensures.0, passes)

pub returns-in-Some-refused-clause-ok : goal.returns-in-Some-refused-clause-ok
returns-in-Some-refused-clause-ok c =
    let r = c.in-Some-refused.refusal in
    let found = c.in-Some-refused.ensures.found in (
      found.0,
      refused_comes c.args.command.now r c.args.lines.now c.next.new.self found.0
          (subst IsOneLine found.1 c.in-Some.ensures.line.0)
          (c.in-Some.ensures.line.1 ∙ ap (λ t. t ++ (10 ∷ c.next.new.self.rest.now)) found.1)
          c.next.ensures.count,
    )

pub returns-in-None-clause-err : goal.returns-in-None-clause-err
returns-in-None-clause-err c = λ v h last left.
    let some = some_answer c.args.command.now v h last left in
    fail_line (AnswerRest c.args.command.now v h last left) c.in-Some.line.now c.next.new.self.rest.now
    c.args.lines.now some.0 c.fault-in-None.result some.1 c.in-Some.ensures.line.0 c.in-Some.ensures.line.1
    (λ ls r. no_answer c.args.command.now v h last left c.in-Some.line.now ls
    (λ e.
    let same = (bytes_eq-Decides c.in-Some.line.now c.as_slice.result.now).1 (e ∙ sym c.as_slice.ensures) in
    let f : false ≡ true = c.if-eq.ensures ∙ same in cc)
    (λ r is e. none_some r (c.in-None.ensures.exact r is e)) r)
    (c.fault-in-None.ensures ∙ ap faults.At c.next.ensures.count)

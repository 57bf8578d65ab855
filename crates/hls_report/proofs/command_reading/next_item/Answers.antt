use Rattle.std.proofs.Common.{◌≡◌, ◌∷◌, ◌++◌, ap, ◌∙◌, sym, subst, true, false, arith}
use Rattle.std.proofs.lemmas.Slice.Eq.{bytes_eq-Decides}
use Rattle.hls_report.specs.declared.fault.ReportFault.TheVariants as faults
use Rattle.hls_report_text.specs.WellFormed.{IsOneLine}
use Rattle.hls_report.specs.Inside.Rests.{CommandRest}
use Rattle.hls_report.proofs.CommandSteps.{no_command, schedule_comes, item_comes}
use Rattle.hls_report.proofs.LineReadings.{none_some}
use Rattle.hls_report.proofs.RestLaws.{some_command, no_last_command}
use Rattle.hls_report.proofs.Stuck.{fail_line, fail_end}
use Rattle.hls_report.proofs.command_reading.next_item.Goals as goal

pub returns-in_default-clause-err : goal.returns-in_default-clause-err
returns-in_default-clause-err c =
    let some = some_command c.args.version c.args.horizon c.args.last c.args.left in
    fail_end (CommandRest c.args.version c.args.horizon c.args.last c.args.left) c.args.lines.now some.0
    c.fault.result some.1
    c.in_default.ensures.line (c.fault.ensures ∙ ap faults.At c.next.ensures.count)
    (no_last_command c.args.version c.args.horizon c.args.last c.args.left)

pub returns-then-eq-clause-ok : goal.returns-then-eq-clause-ok
returns-then-eq-clause-ok c =
    let same = (bytes_eq-Decides c.in-Some.line.now c.as_slice.result.now).0 (sym c.if-eq.ensures)
    ∙ c.as_slice.ensures in
    schedule_comes c.args.version c.args.horizon c.args.last c.args.left c.args.lines.now c.next.new.self
    (c.in-Some.ensures.line.1 ∙ ap (λ t. t ++ (10 ∷ c.next.new.self.rest.now)) same) c.next.ensures.count

pub returns-then-left-eq0-clause-err : goal.returns-then-left-eq0-clause-err
returns-then-left-eq0-clause-err c =
    let some = some_command c.args.version c.args.horizon c.args.last c.args.left in
    fail_line (CommandRest c.args.version c.args.horizon c.args.last c.args.left) c.in-Some.line.now
    c.next.new.self.rest.now c.args.lines.now some.0 c.fault-then-left-eq0.result some.1
    c.in-Some.ensures.line.0 c.in-Some.ensures.line.1
    (λ ls r. no_command c.args.version c.args.horizon c.args.last c.args.left c.in-Some.line.now ls
    (λ e.
    let same = (bytes_eq-Decides c.in-Some.line.now c.as_slice.result.now).1 (e ∙ sym c.as_slice.ensures) in
    let f : false ≡ true = c.if-eq.ensures ∙ same in cc)
    (λ i is lt e. absurd (omega (arith, lt, c.if-left-eq0.true))) r)
    (c.fault-then-left-eq0.ensures ∙ ap faults.At c.next.ensures.count)

pub returns-in-Some-2-clause-ok : goal.returns-in-Some-2-clause-ok
returns-in-Some-2-clause-ok c =
    let i = c.in-Some-2.item in
    let found = rw c.in-Some-2.is at c.in_ok-item.ensures.found in
    item_comes c.args.version c.args.horizon c.args.last c.args.left i c.args.lines.now c.next.new.self c.requires.few
    found.0 (omega (arith, c.if-left-eq0.false))
    (subst IsOneLine found.1 c.in-Some.ensures.line.0)
    (c.in-Some.ensures.line.1 ∙ ap (λ t. t ++ (10 ∷ c.next.new.self.rest.now)) found.1) c.next.ensures.count

pub returns-in-None-clause-err : goal.returns-in-None-clause-err
returns-in-None-clause-err c =
    let some = some_command c.args.version c.args.horizon c.args.last c.args.left in
    fail_line (CommandRest c.args.version c.args.horizon c.args.last c.args.left) c.in-Some.line.now
    c.next.new.self.rest.now c.args.lines.now some.0 c.fault-in-None.result some.1
    c.in-Some.ensures.line.0 c.in-Some.ensures.line.1
    (λ ls r. no_command c.args.version c.args.horizon c.args.last c.args.left c.in-Some.line.now ls
    (λ e.
    let same = (bytes_eq-Decides c.in-Some.line.now c.as_slice.result.now).1 (e ∙ sym c.as_slice.ensures) in
    let f : false ≡ true = c.if-eq.ensures ∙ same in cc)
    (λ i is lt e. let found = rw c.in-None.is at (c.in_ok-item.ensures.exact i is e) in none_some i found) r)
    (c.fault-in-None.ensures ∙ ap faults.At c.next.ensures.count)

use Rattle.std.proofs.Common.{◌≡◌, ap, sym, ◌∙◌, true, false}
use Rattle.std.proofs.lemmas.Slice.Eq.{bytes_eq-Decides}
use Rattle.hls_report.specs.declared.fault.ReportFault.TheVariants as faults
use Rattle.hls_report.proofs.RunSteps.{accounts_pass, no_accounts_line, no_line_left}
use Rattle.hls_report.proofs.run_reading.accounts_line.Goals as goal

pub returns-in_default-clause-err : goal.returns-in_default-clause-err
returns-in_default-clause-err c =
    no_line_left c.args.lines.now c.fault.result c.in_default.ensures.line
    (c.fault.ensures ∙ ap faults.At c.next.ensures.count)

pub returns-then-eq-clause-ok : goal.returns-then-eq-clause-ok
returns-then-eq-clause-ok c =
    accounts_pass c.in-Some.line.now c.args.lines.now c.next.new.self c.in-Some.ensures.line.0
    c.in-Some.ensures.line.1 c.next.ensures.count
    ((bytes_eq-Decides c.in-Some.line.now c.as_slice.result.now).0 (sym c.if-eq.ensures) ∙ c.as_slice.ensures)

pub returns-else-eq-clause-err : goal.returns-else-eq-clause-err
returns-else-eq-clause-err c =
    no_accounts_line c.in-Some.line.now c.next.new.self.rest.now c.args.lines.now c.fault-else-eq.result
    c.in-Some.ensures.line.0 c.in-Some.ensures.line.1
    (c.fault-else-eq.ensures ∙ ap faults.At c.next.ensures.count)
    (λ e.
    let same = (bytes_eq-Decides c.in-Some.line.now c.as_slice.result.now).1 (e ∙ sym c.as_slice.ensures) in
    let f : false ≡ true = c.if-eq.ensures ∙ same in cc)

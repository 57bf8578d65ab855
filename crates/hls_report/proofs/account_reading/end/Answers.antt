use Rattle.std.proofs.Common.{◌≡◌, ◌∷◌, [], ap, ◌∙◌, codes, length, true, false, eq-eqb}
use Rattle.hls_report.specs.declared.fault.ReportFault.TheVariants as faults
use Rattle.hls_report.specs.Inside.Rests.{EndRest, NoRest}
use Rattle.hls_report.proofs.Stuck.{fail_behind, fail_after}
use Rattle.hls_report.proofs.account_reading.end.Goals as goal

pub returns-else-is_empty-clause-err : goal.returns-else-is_empty-clause-err
returns-else-is_empty-clause-err c =
    let at = c.end_line.new.lines in
    fail_behind EndRest NoRest (codes "end" ∷ []) c.args.lines.now at c.fault.result
    c.in_ok-end_line.ensures.ok
    (fail_after at c.fault.result (c.fault.ensures ∙ ap faults.At c.next.ensures.count)
    (λ e.
    let none : length at.rest.now ≡ 0 = ap (λ l. length l) e in
    let full : false ≡ true = c.if-is_empty.ensures ∙ eq-eqb (length at.rest.now) 0 none
    in cc))

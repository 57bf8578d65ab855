use Rattle.std.proofs.Common.{◌≡◌, ◌∷◌, [], ◌++◌, ap, sym, ◌∙◌, codes, true, false, refl}
use Rattle.std.proofs.lemmas.Slice.Eq.{bytes_eq-Decides}
use Rattle.hls_report.specs.declared.fault.ReportFault.TheVariants as faults
use Rattle.hls_report.specs.Inside.Rests.{EndRest, NoRest}
use Rattle.hls_report.proofs.Sections.{first_line, later_lines}
use Rattle.hls_report.proofs.RestLaws.{some_end}
use Rattle.hls_report.proofs.Stuck.{pass_line, fail_line, fail_end}
use Rattle.hls_report.proofs.account_reading.end_line.Goals as goal

pub returns-in_default-clause-err : goal.returns-in_default-clause-err
returns-in_default-clause-err c =
    fail_end EndRest c.args.lines.now (codes "end" ∷ []) c.fault.result some_end c.in_default.ensures.line
    (c.fault.ensures ∙ ap faults.At c.next.ensures.count) (λ e. cc)

pub returns-then-eq-clause-ok : goal.returns-then-eq-clause-ok
returns-then-eq-clause-ok c =
    let same = (bytes_eq-Decides c.in-Some.line.now c.as_slice.result.now).0 (sym c.if-eq.ensures)
    ∙ c.as_slice.ensures in
    pass_line EndRest NoRest (codes "end") c.args.lines.now c.next.new.self [] refl
    (c.in-Some.ensures.line.1 ∙ ap (λ t. t ++ (10 ∷ c.next.new.self.rest.now)) same) c.next.ensures.count
    refl (λ ls r. ap (λ more. codes "end" ∷ more) r) (λ ls r. ap later_lines r)

pub returns-else-eq-clause-err : goal.returns-else-eq-clause-err
returns-else-eq-clause-err c =
    fail_line EndRest c.in-Some.line.now c.next.new.self.rest.now c.args.lines.now (codes "end" ∷ [])
    c.fault-else-eq.result some_end c.in-Some.ensures.line.0 c.in-Some.ensures.line.1
    (λ ls r.
    let same = (bytes_eq-Decides c.in-Some.line.now c.as_slice.result.now).1
    (ap first_line r ∙ sym c.as_slice.ensures) in
    let f : false ≡ true = c.if-eq.ensures ∙ same in cc)
    (c.fault-else-eq.ensures ∙ ap faults.At c.next.ensures.count)

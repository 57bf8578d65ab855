use Rattle.std.proofs.Common.{arith, ◌∙◌}
use Rattle.hls_report.proofs.Heads.{version_read, some_number}
use Rattle.hls_report.proofs.reader.version_of.Goals as goal

pub returns-in-Some-clause-exact : goal.returns-in-Some-clause-exact
returns-in-Some-clause-exact c = λ v is e.
    c.in-Some.ensures.read ∙ version_read c.args.line.now c.in_ok-after.field-0.now v is e
    c.in_ok-after.ensures.read

pub returns-in_default-clause-exact : goal.returns-in_default-clause-exact
returns-in_default-clause-exact c = λ v is e.
    let same = some_number c.in-Some.v v (c.in-Some.ensures.read ∙ version_read c.args.line.now
    c.in_ok-after.field-0.now v is e c.in_ok-after.ensures.read) in
    absurd (omega (arith, is.0, same, c.if-v-ge1.false))

pub returns-in_default-2-clause-exact : goal.returns-in_default-2-clause-exact
returns-in_default-2-clause-exact c = λ v is e.
    c.in_default.ensures.read ∙ version_read c.args.line.now c.in_ok-after.field-0.now v is e
    c.in_ok-after.ensures.read

use Rattle.std.proofs.Common.{arith, ◌∙◌}
use Rattle.hls_report.proofs.Heads.{horizon_read, some_number}
use Rattle.hls_report.proofs.reader.horizon_of.Goals as goal

pub returns-in-Some-clause-exact : goal.returns-in-Some-clause-exact
returns-in-Some-clause-exact c = λ n is e.
    c.in-Some.ensures.read ∙ horizon_read c.args.version c.args.line.now c.in_ok-after.field-0.now n is e
    c.in_ok-after.ensures.read

pub returns-in_default-clause-exact : goal.returns-in_default-clause-exact
returns-in_default-clause-exact c = λ n is e.
    let same = some_number c.in-Some.n n (c.in-Some.ensures.read ∙ horizon_read c.args.version c.args.line.now
    c.in_ok-after.field-0.now n is e c.in_ok-after.ensures.read) in
    absurd (omega (arith, is.1, same, c.if-n-most.false))

pub returns-in_default-2-clause-exact : goal.returns-in_default-2-clause-exact
returns-in_default-2-clause-exact c = λ n is e.
    let same = some_number c.in-Some.n n (c.in-Some.ensures.read ∙ horizon_read c.args.version c.args.line.now
    c.in_ok-after.field-0.now n is e c.in_ok-after.ensures.read) in
    absurd (omega (arith, is.0, same, c.if-n-ge1.false))

pub returns-in_default-3-clause-exact : goal.returns-in_default-3-clause-exact
returns-in_default-3-clause-exact c = λ n is e.
    c.in_default.ensures.read ∙ horizon_read c.args.version c.args.line.now c.in_ok-after.field-0.now n is e
    c.in_ok-after.ensures.read

use Rattle.std.proofs.Common.{◌∙◌}
use Rattle.hls_report.proofs.LineReadings.{back_is, back_made, back_none, none_some}
use Rattle.hls_report.proofs.line_reading.account_back.Goals as goal

pub returns-in_default-clause-exact : goal.returns-in_default-clause-exact
returns-in_default-clause-exact c = λ g r s valid small small_too e.
    absurd (back_none c.args.text.now g r s valid e c.in_default.ensures)

pub returns-in-Some-ticks-clause-exact : goal.returns-in-Some-ticks-clause-exact
returns-in-Some-ticks-clause-exact c = λ g r s valid small small_too e.
    let b = back_is c.args.text.now g c.in-Some.kept c.in-Some.rest.now r s valid small small_too e
    c.in-Some.ensures in
    back_made c.in-Some.kept g c.in-Some-ticks.ready c.in-Some-ticks.served r s b.0
    (c.in-Some-ticks.ensures.read ∙ b.1)

pub returns-in-None-clause-exact : goal.returns-in-None-clause-exact
returns-in-None-clause-exact c = λ g r s valid small small_too e.
    let b = back_is c.args.text.now g c.in-Some.kept c.in-Some.rest.now r s valid small small_too e
    c.in-Some.ensures in
    absurd (none_some (r, s) (c.in-None.ensures.read ∙ b.1))

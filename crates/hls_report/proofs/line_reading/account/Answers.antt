use Rattle.hls_report.proofs.LineReadings.{account_parts, no_account_front}
use Rattle.hls_report.proofs.line_reading.account.Goals as goal

pub returns-in-Some-clause-exact : goal.returns-in-Some-clause-exact
returns-in-Some-clause-exact c = λ a is e.
    let p = account_parts c.args.horizon a c.args.line.now c.in-Some.front.name c.in-Some.front.from
    c.in-Some.front.to c.in-Some.front.rest.now c.requires is e c.in-Some.ensures.read in
    c.account_of.ensures.exact a is p.name p.from p.to p.rest

pub returns-in-None-clause-exact : goal.returns-in-None-clause-exact
returns-in-None-clause-exact c = λ a is e.
    absurd (no_account_front c.args.horizon a c.args.line.now c.requires is e c.in-None.ensures.read)

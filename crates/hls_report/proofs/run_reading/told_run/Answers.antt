use Rattle.std.proofs.Common.{sym}
use Rattle.std.proofs.lemmas.Slice.Eq.{bytes_eq-Decides}
use Rattle.hls_report.proofs.RunSteps.{same_path, no_path}
use Rattle.hls_report.proofs.run_reading.told_run.Goals as goal

pub returns-then-eq-clause-told : goal.returns-then-eq-clause-told
returns-then-eq-clause-told c = λ s.
    let f = c.in-Some.ensures in
    same_path c.args.horizon c.args.from c.in-Some.front.to c.args.last.now c.args.line.now
    c.in-Some.front.words.now c.args.known.now.names.keys s c.requires.few f.0 f.1 f.2
    ((bytes_eq-Decides c.args.last.now c.in-Some.front.words.now).0 (sym c.if-eq.ensures))

pub returns-in-None-clause-told : goal.returns-in-None-clause-told
returns-in-None-clause-told c = λ s.
    let f = c.in-Some.ensures in
    no_path c.args.horizon c.args.from c.in-Some.front.to c.args.last.now c.args.line.now
    c.in-Some.front.words.now c.args.known.now.names.keys s c.requires.few f.0 f.1 f.2
    (rw c.in-None.is at c.in_ok-path.ensures.told)

use Rattle.std.proofs.Common.{arith}
use Rattle.hls_report.proofs.LineEnds.{lacks_before, lacks_all, split_at}
use Rattle.hls_report.proofs.lines.first_line.Goals as goal

pub returns-in-Some : goal.returns-in-Some
returns-in-Some c =
    let high = c.in-Some.ensures.0.high in (
      lacks_before 10 c.args.text.now c.in-Some.place c.in-Some.ensures.0.before (omega arith),
      split_at 10 c.args.text.now c.in-Some.place high c.in-Some.ensures.1,
    )

pub returns-in-None : goal.returns-in-None
returns-in-None c = lacks_all 10 c.args.text.now c.in-None.ensures

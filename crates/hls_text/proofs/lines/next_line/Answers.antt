use Rattle.std.proofs.Common.{arith, rules}
use Rattle.hls_text.proofs.LineLaws.{lines_of-nil, line_and_rest, whole_line}
use Rattle.hls_text.proofs.lines.next_line.Goals as goal

pub returns-then-is_empty-clause-cases : goal.returns-then-is_empty-clause-cases
returns-then-is_empty-clause-cases c = lines_of-nil c.args.text.now (search rules)

pub returns-then-b-eq10-clause-cases : goal.returns-then-b-eq10-clause-cases
returns-then-b-eq10-clause-cases c = rw c.without_return.ensures
    (line_and_rest c.args.text.now c.loop-i.i (omega arith) c.loop-i.invariant (search rules))

pub returns-clause-cases : goal.returns-clause-cases
returns-clause-cases c = whole_line c.args.text.now (search rules)
    (λ i lt. c.loop-i.invariant i (omega arith))

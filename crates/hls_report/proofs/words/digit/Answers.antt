use Rattle.std.proofs.Common.{◌^◌, sym, arith}
use Rattle.hls_text.proofs.WordLaws.{below_again, above_limit, no_lesser, below_is}
use Rattle.hls_report.proofs.words.digit.Goals as goal

pub returns-in-Some-clause-read : goal.returns-in-Some-clause-read
returns-in-Some-clause-read c =
    below_again c.args.limit c.in-Some.n c.args.text.now (omega (arith, c.requires))
    (omega (arith, c.from.ensures, c.if-n-from.true)) c.in-Some.ensures.found

pub returns-in_default-clause-read : goal.returns-in_default-clause-read
returns-in_default-clause-read c =
    let b = below_is (2 ^ 128) c.in-Some.n c.args.text.now (sym c.in-Some.ensures.read) in
    let lt = b.below in
    above_limit c.args.limit c.in-Some.n c.args.text.now (omega (arith, c.requires)) (omega arith)
    (omega (arith, c.from.ensures, c.if-n-from.false))
    c.in-Some.ensures.found

pub returns-in_default-2-clause-read : goal.returns-in_default-2-clause-read
returns-in_default-2-clause-read c =
    no_lesser (2 ^ 128) c.args.limit c.args.text.now (omega arith) (omega (arith, c.requires))
    c.in_default.ensures.read

use Rattle.std.proofs.Common.{◌≡◌, ◌∙◌, sym, arith, get_or, eq-eqb}
use Rattle.std.proofs.lemmas.Bool.{ne_eqb}
use Rattle.std.proofs.lemmas.List.{get_or_read}
use Rattle.hls_tree_depths.proofs.Sums.{at_skip, at_here, at_end}
use Rattle.hls_tree_depths.proofs.sum.sum_found.Goals as goal

pub loop-at-preserved : goal.loop-at-preserved
loop-at-preserved c =
    let on : c.key.result ≡ get_or c.args.schedulers.now c.loop-at.at 0 = c.key.ensures.key
    ∙ get_or_read c.args.schedulers.now c.loop-at.at c.index-schedulers-at.result c.loop-at-test.true
    c.index-schedulers-at.is 0 in
    at_skip c.args.schedulers.now c.args.sums.now c.loop-at.at c.args.key _ c.loop-at-test.true
    (omega (arith, c.loop-at-test.true, c.requires.few, c.told-sums))
    (ne_eqb _ _ (λ e. c.if-key.false (on ∙ e))) c.loop-at.invariant

pub returns-then-key : goal.returns-then-key
returns-then-key c =
    let on : c.key.result ≡ get_or c.args.schedulers.now c.loop-at.at 0 = c.key.ensures.key
    ∙ get_or_read c.args.schedulers.now c.loop-at.at c.index-schedulers-at.result c.loop-at-test.true
    c.index-schedulers-at.is 0 in
    at_here c.args.schedulers.now c.args.sums.now c.loop-at.at c.args.key _ c.loop-at-test.true
    (omega (arith, c.loop-at-test.true, c.requires.few, c.told-sums))
    (eq-eqb _ _ (sym on ∙ c.if-key.true)) c.loop-at.invariant

pub returns : goal.returns
returns c = at_end c.args.schedulers.now c.args.sums.now c.loop-at.at c.args.key _ c.loop-at-test.false
    c.loop-at.invariant

use Rattle.std.proofs.Common.{◌∙◌, sym}
use Rattle.hls_view_jobs.proofs.AdmissionLaws.{end_here, end_behind, end_nowhere}
use Rattle.hls_view_jobs.proofs.admissions.end_from.Goals as goal

pub returns-then-is_end_of : goal.returns-then-is_end_of
returns-then-is_end_of c = sym (c.loop-at.invariant
    ∙ end_here c.args.horizon c.args.name.now c.args.answered.now c.loop-at.at c.index-answered-at.result
    c.loop-at-test.true c.index-answered-at.is (sym c.is_end_of.ensures ∙ c.if-is_end_of.true))

pub loop-at-preserved : goal.loop-at-preserved
loop-at-preserved c = c.loop-at.invariant
    ∙ end_behind c.args.horizon c.args.name.now c.args.answered.now c.loop-at.at c.index-answered-at.result
    c.loop-at-test.true c.index-answered-at.is (sym c.is_end_of.ensures ∙ c.if-is_end_of.false)

pub returns : goal.returns
returns c = sym (c.loop-at.invariant
    ∙ end_nowhere c.args.horizon c.args.name.now c.args.answered.now c.loop-at.at c.loop-at-test.false)

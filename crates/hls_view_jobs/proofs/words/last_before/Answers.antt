use Rattle.std.proofs.Common.{List, ◌∙◌, sym, ap}
use Rattle.hls_view_jobs.specs.declared.job.Word.{Word}
use Rattle.hls_view_jobs.specs.Words.{first, last_by}
use Rattle.hls_view_jobs.proofs.WordLaws.{said_at, quiet_at, silent_at}
use Rattle.hls_view_jobs.proofs.words.last_before.Goals as goal

pub returns-then-has_roused : goal.returns-then-has_roused
returns-then-has_roused c =
    sym (ap (λ (l : List Word). last_by c.args.horizon (first l))
    (c.loop-a.invariant ∙ said_at c.args.horizon c.args.name.now c.args.after.now c.loop-a.a-index c.a-item.result
    c.loop-a-test.true c.a-item.is (sym c.has_roused.ensures ∙ c.if-has_roused.true)))

pub loop-a-preserved : goal.loop-a-preserved
loop-a-preserved c =
    c.loop-a.invariant ∙ quiet_at c.args.horizon c.args.name.now c.args.after.now c.loop-a.a-index c.a-item.result
    c.loop-a-test.true c.a-item.is (sym c.has_roused.ensures ∙ c.if-has_roused.false)

pub returns : goal.returns
returns c =
    c.saturating_sub.ensures ∙ sym (ap (λ (l : List Word). last_by c.args.horizon (first l))
    (c.loop-a.invariant ∙ silent_at c.args.horizon c.args.name.now c.args.after.now c.loop-a.a-index
    c.loop-a-test.false))

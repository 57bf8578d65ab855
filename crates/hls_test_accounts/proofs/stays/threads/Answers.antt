use Rattle.std.proofs.Common.{◌+◌, ◌++◌, List, sym, ap, ◌∙◌}
use Rattle.std.proofs.lemmas.List.{append-nil, take_rest}
use Rattle.hls_text.specs.Lines.{Text}
use Rattle.hls_legal.proofs.StayLaws.{stands_by, threads-more, threads-all}
use Rattle.hls_test_accounts.proofs.stays.threads.Goals as goal
use Rattle.hls_test_accounts.proofs.stays.threads.Goals.{in-Some+in_ok-push, in_default}

pub loop-i-preserved : goal.loop-i-preserved
loop-i-preserved c =
    threads-more c.args.answered.now c.loop-i.i c.index-answered-i.result c.loop-i.names.items
    c.match-admitted.names.items _ c.loop-i-test.true c.index-answered-i.is
    (elim c.match-admitted.branch [
      | in-Some+in_ok-push w ↦ rw (w.names-is)
          (w.in_ok-push.ensures.items
          ∙ ap (λ (l : List Text). c.loop-i.names.items ++ l)
          (w.in-Some.ensures
          ∙ ap (stands_by c.index-answered-i.result) (take_rest c.args.answered.now (c.loop-i.i + 1))))
      | in_default w ↦ rw (w.names-is)
          (sym (append-nil c.loop-i.names.items)
          ∙ ap (λ (l : List Text). c.loop-i.names.items ++ l)
          (w.in_default.ensures
          ∙ ap (stands_by c.index-answered-i.result) (take_rest c.args.answered.now (c.loop-i.i + 1))))
    ]) c.loop-i.invariant

pub returns : goal.returns
returns c = threads-all c.args.answered.now c.loop-i.i c.loop-i.names.items _ c.loop-i-test.false
    c.loop-i.invariant

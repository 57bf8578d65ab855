use Rattle.std.proofs.Common.{sym, ap, ◌∙◌, ◌++◌}
use Rattle.std.proofs.lemmas.List.{append-nil}
use Rattle.hls_audit_stays.proofs.Lists.{take_all}
use Rattle.hls_audit_stays.proofs.CarryLaws.{settled_more}
use Rattle.hls_audit_stays.proofs.carrying.append.Goals as goal

pub loop-found-init : goal.loop-found-init
loop-found-init c = sym (append-nil c.args.stays.now.items)

pub loop-found-preserved : goal.loop-found-preserved
loop-found-preserved c =
    settled_more c.args.stays.now.items c.args.more.now c.loop-found.found-index c.found-item.result
    c.loop-found.stays.items _ c.loop-found-test.true c.found-item.is c.in_ok-push.ensures.items
    c.loop-found.invariant

pub returns : goal.returns
returns c =
    c.loop-found.invariant
    ∙ ap (λ l. c.args.stays.now.items ++ l) (take_all c.args.more.now c.loop-found.found-index c.loop-found-test.false)

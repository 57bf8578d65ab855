use Rattle.std.proofs.Common.{sym, ◌∙◌}
use Rattle.hls_audit_threads.proofs.SameAccounts.{by_ticks}
use Rattle.hls_audit_threads.proofs.meeting.same_account.Goals as goal

pub returns : goal.returns
returns c =
    by_ticks c.args.one.now c.args.other.now c.same_ticks.result
    (sym c.same_name.ensures ∙ c.if-not-same_name.false)
    (c.same_guarantee.ensures.0 c.if-not-same_guarantee.false) c.same_ticks.ensures

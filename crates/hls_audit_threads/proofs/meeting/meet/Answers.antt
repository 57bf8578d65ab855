use Rattle.std.proofs.lemmas.Bool.Decides.{not_from_Decides}
use Rattle.hls_audit_threads.proofs.MeetingLaws.{meets_next, meets_other}
use Rattle.hls_audit_threads.proofs.meeting.meet.Goals as goal

pub returns-then-is_at : goal.returns-then-is_at
returns-then-is_at c = λ before are.
    meets_next c.args.accounts.now before c.args.met c.args.found c.in-Some-met.at c.in-Some.account c.in-Some.is
    c.in-Some-met.is are (c.is_at.ensures.0 c.if-is_at.true)

pub returns-else-is_at : goal.returns-else-is_at
returns-else-is_at c = λ before are.
    meets_other c.args.accounts.now before c.args.met c.args.found c.in-Some-met.at c.in-Some.account c.in-Some.is
    c.in-Some-met.is are (not_from_Decides c.is_at.result c.is_at.ensures c.if-is_at.false)

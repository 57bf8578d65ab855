use Rattle.std.proofs.Common.{refl, subst}
use Rattle.std.specs.Prelude.{false}
use Rattle.hls_audit_threads.specs.Inside.Meeting.{AreMet}
use Rattle.hls_audit_threads.proofs.MeetingLaws.{apart_all}
use Rattle.hls_audit_threads.proofs.meeting.are_all_met.Goals as goal

pub returns-in-None : goal.returns-in-None
returns-in-None c = λ found are.
    apart_all c.args.accounts.now found false refl (subst (AreMet c.args.accounts.now found) c.in-None.is are)

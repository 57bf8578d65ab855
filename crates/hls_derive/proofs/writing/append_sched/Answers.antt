use Rattle.std.proofs.Common.{codes}
use Rattle.std.proofs.lemmas.Result.{on_err_weaker}
use Rattle.hls_derive.specs.DerivationText.{scheduler_text}
use Rattle.hls_derive.proofs.Appends.{begins_after_two}
use Rattle.hls_derive.proofs.writing.append_sched.Goals as goal

pub returns-clause-err : goal.returns-clause-err
returns-clause-err c =
    let by = scheduler_text c.args.step.now.kind c.args.step.now.port in
    on_err_weaker c.append_reached.result
    (begins_after_two c.args.out.now.items (codes " ") by c.extend_from_slice.new.self.items
    c.append_scheduler.new.out.items c.append_reached.new.out.items c.in_ok-extend_from_slice.ensures.items
    c.in_ok-append_scheduler.ensures.ok)
    c.append_reached.ensures.err

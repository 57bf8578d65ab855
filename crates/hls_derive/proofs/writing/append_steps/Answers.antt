use Rattle.std.proofs.Common.{take}
use Rattle.hls_derive.specs.DerivationText.{steps_text}
use Rattle.hls_derive.proofs.Appends.{on_err, begins_after}
use Rattle.hls_derive.proofs.writing.append_steps.Goals as goal

pub returns-in_err-append_step-clause-err : goal.returns-in_err-append_step-clause-err
returns-in_err-append_step-clause-err c =
    let written = steps_text (take c.loop-step.step-index c.args.steps.now) in
    on_err c.from_residual.result
    (begins_after c.args.out.now.items written c.loop-step.out.items c.append_step.new.out.items
    c.loop-step.invariant c.in_err-append_step.ensures.err)

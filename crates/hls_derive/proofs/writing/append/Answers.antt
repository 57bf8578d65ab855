use Rattle.std.proofs.lemmas.Result.{on_err_weaker}
use Rattle.hls_guarantee.specs.Spelling.{spelling}
use Rattle.hls_derive.specs.DerivationText.{sched_text, steps_text}
use Rattle.hls_derive.proofs.Appends.{on_err, begins_after, begins_after_two, begins_after_three}
use Rattle.hls_derive.proofs.writing.append.Goals as goal

pub returns-in_err-append_steps-clause-err : goal.returns-in_err-append_steps-clause-err
returns-in_err-append_steps-clause-err c =
    on_err c.from_residual-in_err-append_steps.result
    (begins_after c.args.out.now.items (spelling c.args.d.now.from) c.write_guarantee.new.out.items
    c.append_steps.new.out.items c.in_ok-write_guarantee.ensures.ok c.in_err-append_steps.ensures.err)

pub returns-in_err-append_sched-clause-err : goal.returns-in_err-append_sched-clause-err
returns-in_err-append_sched-clause-err c =
    on_err c.from_residual-in_err-append_sched.result
    (begins_after_two c.args.out.now.items (spelling c.args.d.now.from) (steps_text c.items.result.now)
    c.write_guarantee.new.out.items c.append_steps.new.out.items c.append_sched.new.out.items
    c.in_ok-write_guarantee.ensures.ok c.in_ok-append_steps.ensures.ok c.in_err-append_sched.ensures.err)

pub returns-clause-err : goal.returns-clause-err
returns-clause-err c =
    on_err_weaker c.append_steps-2.result
    (begins_after_three c.args.out.now.items (spelling c.args.d.now.from) (steps_text c.items.result.now)
    (sched_text c.args.d.now.sched) c.write_guarantee.new.out.items c.append_steps.new.out.items
    c.append_sched.new.out.items c.append_steps-2.new.out.items c.in_ok-write_guarantee.ensures.ok
    c.in_ok-append_steps.ensures.ok c.in_ok-append_sched.ensures.ok)
    c.append_steps-2.ensures.err

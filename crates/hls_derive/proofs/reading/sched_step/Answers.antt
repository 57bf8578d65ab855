use Rattle.hls_derive.proofs.Fronts.{no_sched, sched_reached}
use Rattle.hls_derive.proofs.reading.sched_step.Goals as goal

pub returns-in_default : goal.returns-in_default
returns-in_default c = λ s rest stands. no_sched c.args.text.now s rest c.in_default.ensures.read stands

pub returns-in_default-guarantee : goal.returns-in_default-guarantee
returns-in_default-guarantee c = λ s behind stands.
    c.in_default-guarantee.ensures s.to behind
    (sched_reached c.args.text.now c.in-Some.kind c.in-Some.port c.in-Some.rest.now s behind
    c.in-Some.ensures.read stands)

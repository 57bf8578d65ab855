use Rattle.std.proofs.Common.{refl, sym, ◌∙◌, subst}
use Rattle.hls_audit_stays.specs.Places.{Sets}
use Rattle.hls_audit_stays.proofs.SeatLaws.{learn_again, learn_new}
use Rattle.hls_audit_stays.proofs.seats.Seats.learn.Goals as goal

pub returns-then-has : goal.returns-then-has
returns-then-has c = learn_again c.args.self.now c.args.sched.now (sym c.has.ensures ∙ c.if-has.true)

pub returns : goal.returns
returns c =
    learn_new c.args.self.now _ c.args.sched.now refl c.in_ok-push.ensures.items
    (subst (λ n. Sets c.args.self.now.places c.set.new.self c.args.sched.now n)
    (c.len-place.ensures ∙ c.args.self.now.scheds.ok.0) c.in_ok-set.ensures)

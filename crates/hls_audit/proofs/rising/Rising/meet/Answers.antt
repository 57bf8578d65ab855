use Rattle.std.proofs.Common.{sym, ◌∙◌, subst}
use Rattle.hls_audit_stays.specs.Places.{Sets}
use Rattle.hls_audit.proofs.RisingLaws.{meet_again, meet_new}
use Rattle.hls_audit.proofs.rising.Rising.meet.Goals as goal

pub returns-then-has : goal.returns-then-has
returns-then-has c = meet_again c.args.self.now c.args.name.now (sym c.has.ensures ∙ c.if-has.true)

pub returns : goal.returns
returns c =
    meet_new c.args.self.now _ c.args.name.now c.in_ok-push.ensures.items
    (subst (λ n. Sets c.args.self.now.places c.set.new.self c.args.name.now n)
    (c.len-place.ensures ∙ c.args.self.now.names.ok.0) c.in_ok-set.ensures)

use Rattle.std.proofs.Common.{subst, sym}
use Rattle.std.specs.Prelude.{Contains}
use Rattle.hls_offer_lines.proofs.Placing.{when-true, when-false}
use Rattle.hls_offer_lines.proofs.HardOnes.{line-exact, line-once}
use Rattle.hls_offer_lines.proofs.hard.with_line.Goals as goal

pub returns-clause-exact : goal.returns-clause-exact
returns-clause-exact g c = λ line.
    line-exact c.args.seat.now c.args.lines.items c.push.new.self.items c.in-Some.line line c.args.line c.in-Some.is
    c.in_ok-push.ensures.items
    (when-true _ c.in_ok-offers.field-0 c.if-not-branch.false c.in_ok-offers.ensures)

pub returns-clause-once : goal.returns-clause-once
returns-clause-once g c =
    line-once c.args.lines.items c.push.new.self.items c.in-Some.line c.in_ok-push.ensures.items
    (λ has. when-false _ c.lists.result c.if-lists.false c.lists.ensures
    (subst (λ v. Contains v c.in-Some.line) (sym c.deref.ensures.value) has))

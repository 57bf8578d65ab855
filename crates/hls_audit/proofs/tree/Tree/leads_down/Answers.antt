use Rattle.std.proofs.Common.{◌∙◌, ◌≤◌, take, sym, length, arith}
use Rattle.hls_audit.proofs.PathLaws.{left-first, left-there, left-astray, left-more, left-end}
use Rattle.hls_audit.proofs.tree.Tree.leads_down.Goals as goal

pub loop-place-init : goal.loop-place-init
loop-place-init c =
    left-first c.args.self.now.members.items c.args.names.now (take c.args.path.now.len c.args.path.now.names)
    c.requires.named

pub returns-in_default : goal.returns-in_default
returns-in_default c =
    absurd (left-there c.args.self.now.members.items c.args.names.now
    (take c.args.path.now.len c.args.path.now.names) c.loop-place.above c.loop-place.place-index
    c.loop-place-test.true c.loop-place.invariant (sym c.name_at.ensures ∙ c.in_default.is))

pub returns-then-not-is_step : goal.returns-then-not-is_step
returns-then-not-is_step c =
    left-astray c.args.self.now.members.items c.args.names.now
    (take c.args.path.now.len c.args.path.now.names) c.loop-place.above c.loop-place.place-index c.in-Some.name
    c.loop-place-test.true c.loop-place.invariant (sym c.name_at.ensures ∙ c.in-Some.is)
    (sym c.is_step.ensures ∙ c.if-not-is_step.true)

pub loop-place-preserved : goal.loop-place-preserved
loop-place-preserved c =
    left-more c.args.self.now.members.items c.args.names.now
    (take c.args.path.now.len c.args.path.now.names) c.loop-place.above c.loop-place.place-index c.in-Some.name
    c.loop-place-test.true c.loop-place.invariant (sym c.name_at.ensures ∙ c.in-Some.is)
    (sym c.is_step.ensures ∙ c.if-not-is_step.false)

pub returns : goal.returns
returns c =
    let places = take c.args.path.now.len c.args.path.now.names in
    let past : length places ≤ c.loop-place.place-index = omega arith in
    c.is_last.ensures ∙ left-end c.args.self.now.members.items c.args.names.now places c.loop-place.above
    c.loop-place.place-index past c.loop-place.invariant

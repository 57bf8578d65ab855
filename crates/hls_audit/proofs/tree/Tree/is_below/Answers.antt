use Rattle.std.proofs.Common.{◌≤◌, ◌∙◌, sym, subst, length, arith, List}
use Rattle.hls_scenario.specs.declared.scenario.Perch.{Perch}
use Rattle.hls_audit.specs.Inside.Rising.{MeetsAll}
use Rattle.hls_audit.proofs.WayLaws.{way_start, way_more, way_found, way_past, way_end}
use Rattle.hls_audit.proofs.tree.Tree.is_below.Goals as goal

pub loop-at-init : goal.loop-at-init
loop-at-init c =
    way_start c.args.self.now.members.items c.args.above.now c.args.name.now c.new-rising.result c.meet.new.self
    c.new-rising.ensures.named c.new-rising.ensures.none c.in_ok-meet.ensures

pub returns-in_default : goal.returns-in_default
returns-in_default c =
    way_past c.args.self.now.members.items c.args.above.now c.args.name.now c.loop-at.rising c.loop-at.at
    (sym c.get.ensures ∙ c.in_default.is) c.loop-at.invariant

pub returns-then-is_same : goal.returns-then-is_same
returns-then-is_same c =
    way_found c.args.self.now.members.items c.args.above.now c.args.name.now c.loop-at.rising c.loop-at.at
    c.in-Some.next (sym c.get.ensures ∙ c.in-Some.is) (sym c.is_same.ensures ∙ c.if-is_same.true) c.loop-at.invariant

pub loop-at-preserved : goal.loop-at-preserved
loop-at-preserved c =
    way_more c.args.self.now.members.items c.args.above.now c.args.name.now c.loop-at.rising c.meet_all.new.self
    c.loop-at.at c.in-Some.next (sym c.get.ensures ∙ c.in-Some.is) (sym c.is_same.ensures ∙ c.if-is_same.false)
    c.loop-at.invariant
    (subst (λ (perches : List Perch). MeetsAll c.loop-at.rising c.meet_all.new.self perches) c.perches.ensures
    c.in_ok-meet_all.ensures)

pub returns : goal.returns
returns c =
    let all : length c.loop-at.rising.names.items ≤ c.loop-at.at = omega arith in
    way_end c.args.self.now.members.items c.args.above.now c.args.name.now c.loop-at.rising c.loop-at.at all
    c.loop-at.invariant

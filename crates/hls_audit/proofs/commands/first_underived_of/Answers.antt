use Rattle.std.proofs.Common.{List, subst, sym}
use Rattle.hls_audit_clauses.specs.declared.member.Member.{Member}
use Rattle.hls_audit_threads.proofs.Deciding.{is_not}
use Rattle.hls_audit.proofs.Orders.{AreFit, fit_none, fit_more, not_misplaced, is_sound, first_below, none_below}
use Rattle.hls_audit.proofs.Orders.{none_at_all}
use Rattle.hls_audit.proofs.commands.first_underived_of.Goals as goal

pub loop-a-init : goal.loop-a-init
loop-a-init c =
    subst (λ (tree : List Member). AreFit c.args.depth c.args.answered.now 0 tree) (sym c.new-tree.ensures)
    (fit_none c.args.depth c.args.answered.now)

pub returns-then-below-a : goal.returns-then-below-a
returns-then-below-a c =
    none_below c.args.depth c.args.answered.now c.loop-a.a-index c.a-item.result c.args.below
    c.loop-a.tree.members.items c.requires.order c.loop-a-test.true c.a-item.is c.if-below-a.true
    c.loop-a.invariant

pub is_underived-requires-clause-sound : goal.is_underived-requires-clause-sound
is_underived-requires-clause-sound c =
    is_sound c.args.answered.now c.loop-a.a-index c.a-item.result c.loop-a-test.true c.a-item.is c.requires.sound

pub is_underived-requires-clause-placed : goal.is_underived-requires-clause-placed
is_underived-requires-clause-placed c =
    not_misplaced c.args.answered.now c.loop-a.a-index c.a-item.result c.args.below c.loop-a.tree.members.items
    c.loop-a-test.true c.a-item.is c.if-below-a.false c.requires.placed c.loop-a.invariant.good.tree_is

pub loop-a-preserved : goal.loop-a-preserved
loop-a-preserved c =
    fit_more c.args.depth c.args.answered.now c.loop-a.a-index c.a-item.result c.loop-a.tree.members.items
    c.follow.new.self.members.items c.loop-a-test.true c.a-item.is c.in_ok-follow.ensures
    (is_not c.in_ok-is_underived.field-0 c.in_ok-is_underived.ensures c.if-branch.false)
    (not_misplaced c.args.answered.now c.loop-a.a-index c.a-item.result c.args.below c.loop-a.tree.members.items
    c.loop-a-test.true c.a-item.is c.if-below-a.false c.requires.placed c.loop-a.invariant.good.tree_is)
    (is_sound c.args.answered.now c.loop-a.a-index c.a-item.result c.loop-a-test.true c.a-item.is c.requires.sound)
    c.loop-a.invariant

pub returns-then-branch : goal.returns-then-branch
returns-then-branch c =
    first_below c.args.depth c.args.answered.now c.loop-a.a-index c.a-item.result c.args.below
    c.loop-a.tree.members.items c.requires.order c.loop-a-test.true c.a-item.is c.if-below-a.false
    (c.in_ok-is_underived.ensures.0 c.if-branch.true) c.loop-a.invariant

pub returns : goal.returns
returns c = none_at_all c.args.depth c.args.answered.now c.loop-a.a-index c.args.below c.loop-a.tree.members.items
    c.loop-a-test.false c.loop-a.invariant

use Rattle.std.proofs.Common.{List, subst, sym}
use Rattle.hls_audit_clauses.specs.declared.member.Member.{Member}
use Rattle.hls_audit.specs.Inside.Sites.{IsMisplacedBy}
use Rattle.hls_audit_threads.proofs.Deciding.{is_not}
use Rattle.hls_audit.proofs.Orders.{AreGood, good_none, good_more, first_bad, none_bad}
use Rattle.hls_audit.proofs.commands.first_misplaced_of.Goals as goal

pub loop-a-init : goal.loop-a-init
loop-a-init c =
    subst (λ (tree : List Member). AreGood IsMisplacedBy c.args.answered.now 0 tree) (sym c.new-tree.ensures)
    (good_none IsMisplacedBy c.args.answered.now)

pub loop-a-preserved : goal.loop-a-preserved
loop-a-preserved c =
    good_more IsMisplacedBy c.args.answered.now c.loop-a.a-index c.a-item.result c.loop-a.tree.members.items
    c.follow.new.self.members.items c.loop-a-test.true c.a-item.is c.in_ok-follow.ensures
    (is_not c.in_ok-is_misplaced.field-0 c.in_ok-is_misplaced.ensures c.if-branch.false) c.loop-a.invariant

pub returns-then-branch : goal.returns-then-branch
returns-then-branch c =
    first_bad IsMisplacedBy c.args.answered.now c.loop-a.a-index c.a-item.result c.loop-a.tree.members.items
    c.requires c.loop-a-test.true c.a-item.is (c.in_ok-is_misplaced.ensures.0 c.if-branch.true) c.loop-a.invariant

pub returns : goal.returns
returns c = none_bad IsMisplacedBy c.args.answered.now c.loop-a.a-index c.loop-a.tree.members.items c.loop-a-test.false
    c.loop-a.invariant

use Rattle.hls_core.proofs.Tellings.{told_goes_on, tells_same, may_untold, tells_command}
use Rattle.hls_core.proofs.telling.tell_command.Goals as goal

pub carry_next-requires : goal.carry_next-requires
carry_next-requires g c = told_goes_on _ c.args.core.now c.args.text.now.items c.requires

pub returns-then-not-branch-clause-on : goal.returns-then-not-branch-clause-on
returns-then-not-branch-clause-on g c =
    tells_same _ c.args.core.now c.carry_next.new.self c.args.text.now.items
    (c.in_ok-carry_next.ensures.same c.if-not-branch.true)

pub tell_last-requires : goal.tell_last-requires
tell_last-requires g c =
    may_untold _ c.args.core.now c.carry_next.new.self c.args.text.now.items
    (c.in_ok-carry_next.ensures.carried c.if-not-branch.false) c.requires

pub returns-clause-on : goal.returns-clause-on
returns-clause-on g c =
    tells_command _ c.args.core.now c.carry_next.new.self c.tell_last.new.core c.args.text.now.items
    c.tell_last.new.text.items (c.in_ok-carry_next.ensures.carried c.if-not-branch.false)
    c.in_ok-tell_last.ensures.told

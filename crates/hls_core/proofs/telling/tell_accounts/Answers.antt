use Rattle.hls_core.proofs.Texts.{stays_apart}
use Rattle.hls_core.proofs.telling.tell_accounts.Goals as goal

pub returns : goal.returns
returns c =
    stays_apart c.args.stays c.args.now c.idle-idle.result c.new-text.result.items c.put.new.out.items
    c.put_accounts.new.out.items c.put_end.new.out.items c.new-text.ensures.items c.in_ok-put.ensures
    c.in_ok-put_accounts.ensures c.idle-idle.ensures c.in_ok-put_end.ensures

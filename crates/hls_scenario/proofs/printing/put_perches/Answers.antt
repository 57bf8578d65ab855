use Rattle.std.proofs.lemmas.Result.{IfOk-equal}
use Rattle.hls_scenario.proofs.CanonicalPrinting.{perches_whole}
use Rattle.hls_scenario.proofs.printing.put_perches.Goals as goal

pub returns : goal.returns
returns c =
    IfOk-equal _ _ _ _ c.put_more_perches.ensures
    (rw c.in_ok-put_perch.ensures
    (perches_whole c.args.out.now.items c.args.perches.now c.first-item.result c.in-len1-up.len_at_least
    c.first-item.is))

use Rattle.std.proofs.Common.{sym}
use Rattle.hls_core_stays.specs.Inside.Steps.{without}
use Rattle.hls_core_stays.proofs.Ends.{ended_none}
use Rattle.hls_core_stays.proofs.stays.Stays.reseat.Goals as goal

pub returns : goal.returns
returns g c = λ h stays tree ready thread are has.
    c.open.ensures.opened h (without h.now c.args.id stays) tree ready thread
    (c.close-place.ensures.closed h stays (sym (c.now.ensures h tree)) are has) (ended_none h stays c.args.id)

use Rattle.std.proofs.Common.{ap, subst}
use Rattle.hls_guarantee.specs.declared.Guarantee.{Guarantee}
use Rattle.hls_audit_watch.specs.First.{FirstAt}
use Rattle.hls_audit_watch.specs.Shortages.{IsShort}
use Rattle.hls_audit_watch.specs.Watched.{Watched}
use Rattle.hls_audit_watch.proofs.shortage.first_short.Goals as goal

pub returns : goal.returns
returns c =
    subst (λ (g : Guarantee). FirstAt (IsShort g c.args.ready.now c.args.served.now) c.find_short.result)
    (ap (λ (w : Watched). w.guarantee) c.in_ok-watch.ensures) c.find_short.ensures

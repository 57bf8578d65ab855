use Rattle.std.proofs.Common.{◌≡◌, ◌↔◌, sym, subst}
use Rattle.std.specs.Prelude.{Some}
use Rattle.hls_offer_laws.specs.Candidates.{HasTicks}
use Rattle.hls_offer_laws.proofs.candidates.own_ticks.Goals as goal

pub returns-in-Resc : goal.returns-in-Resc
returns-in-Resc c = λ x.
    subst (λ v. (c.repeated_ticks.result ≡ Some x) ↔ HasTicks v x c.args.y) (sym c.in-Resc.is)
    (c.repeated_ticks.ensures x)

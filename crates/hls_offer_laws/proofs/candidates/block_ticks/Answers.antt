use Rattle.std.proofs.Common.{◌≡◌, ◌↔◌, sym, subst}
use Rattle.std.specs.Prelude.{Some}
use Rattle.hls_offer_laws.specs.Candidates.{SpansTicks}
use Rattle.hls_offer_laws.proofs.candidates.block_ticks.Goals as goal

pub returns-in-Resb : goal.returns-in-Resb
returns-in-Resb c = λ x.
    subst (λ v. (c.spanned_ticks.result ≡ Some x) ↔ SpansTicks v x c.args.y) (sym c.in-Resb.is)
    (c.spanned_ticks.ensures x)

use Rattle.std.proofs.Common.{subst}
use Rattle.std.specs.Prelude.{Option}
use Rattle.hls_view_tights.specs.declared.tights.Tight.{Tight}
use Rattle.hls_view_tights.specs.Surpluses.{IsLeastOf}
use Rattle.hls_view_tights.proofs.Order.{next_least}
use Rattle.hls_view_tights.proofs.least.tighter.Goals as goal

pub returns-else-is_no_more : goal.returns-else-is_no_more
returns-else-is_no_more c =
    λ all is. next_least all c.in-Some.least c.args.next
    (λ most. let on = c.is_no_more.ensures.1 most in absurd (cc))
    (subst (λ (o : Option Tight). IsLeastOf all o) c.in-Some.is is)

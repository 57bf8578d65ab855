use Rattle.hls_core_stays.proofs.Fresh.{renewed_still}
use Rattle.hls_core_stays.proofs.stays.Stays.renew_all.Goals as goal

pub returns-else-not-are_renewed : goal.returns-else-not-are_renewed
returns-else-not-are_renewed g c = λ h stays tree ready may. record {
  kept = stays;
  are = may.are;
  all = renewed_still c.args.self.now h stays c.args.ids.now may c.now.result (c.now.ensures h tree)
      (c.are_renewed.ensures c.if-not-are_renewed.false);
}

use Rattle.std.proofs.Common.{sym, refl}
use Rattle.hls_core_stays.proofs.Renewed.{renew_one}
use Rattle.hls_core_stays.proofs.stays.Stays.renew.Goals as goal

pub returns-clause-renewed : goal.returns-clause-renewed
returns-clause-renewed g c = λ h stays tree ready are alike.
    renew_one c.args.self.now c.close-like.new.self _ h stays c.args.id c.close-like.result c.now-now.result
    c.ready_since.result are alike c.close-like.ensures.found
    (c.close-like.ensures.closed h stays (sym (c.now-now.ensures h tree)) are alike.has) (c.now-now.ensures h tree)
    (c.ready_since.ensures.noted h tree ready) (c.ready_since.ensures.begun h tree) c.push_like.ensures.items refl

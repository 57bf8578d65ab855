use Rattle.std.proofs.lemmas.Result.{IfOk-weaker}
use Rattle.hls_core.proofs.Texts.{stays_told, rest_told}
use Rattle.hls_core.proofs.telling.tell_rest.Goals as goal

pub tell_accounts-requires : goal.tell_accounts-requires
tell_accounts-requires g c =
    stays_told _ c.args.core c.args.text.items _ c.requires.may c.requires.ended c.ticks-now.ensures

pub returns : goal.returns
returns g c =
    IfOk-weaker c.new.result _ _ (λ told parts.
    rest_told _ c.args.core c.args.text.items _ _ _ _ c.requires.ended c.ticks-now.ensures
    c.in_ok-schedule.ensures c.in_ok-back.ensures parts) c.new.ensures

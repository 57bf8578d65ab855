use Rattle.std.proofs.Common.{◌∙◌, ap, arith, is_some}
use Rattle.hls_chron.proofs.CountLaws.{count-agree}
use Rattle.hls_kinds_lookup.proofs.frames.owned_places.Goals as goal

pub returns : goal.returns
returns c = c.owned_below.ensures
    ∙ count-agree _ _ 0 c.args.frame (λ place _ lt. ap is_some (c.owners.ensures place (omega (arith, lt, c.requires))))

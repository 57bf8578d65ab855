use Rattle.std.proofs.Common.{map, string_bytes, refl}
use Rattle.hls_offer_words.proofs.Telling.{answered}
use Rattle.hls_offer_words.proofs.parsing.asked_for.Goals as goal

pub returns-in-Ok : goal.returns-in-Ok
returns-in-Ok c =
    answered (map string_bytes c.args.words.now) c.asked_told.result _ (c.if-not-has_shape.ensures.yes refl)
    c.in-Ok.ensures.told c.asked_told.ensures

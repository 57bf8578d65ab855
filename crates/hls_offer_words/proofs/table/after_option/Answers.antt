use Rattle.std.proofs.Common.{inr, refl}
use Rattle.hls_offer_words.proofs.table.after_option.Goals as goal

pub returns-in-None : goal.returns-in-None
returns-in-None c = inr (refl, c.in-None.ensures.none refl)

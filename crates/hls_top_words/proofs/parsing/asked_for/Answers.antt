use Rattle.std.proofs.Common.{map, string_bytes, subst, refl}
use Rattle.hls_top_words.specs.Inside.Shapes.{HasShape}
use Rattle.hls_top_words.proofs.Asking.{answered}
use Rattle.hls_top_words.proofs.parsing.asked_for.Goals as goal

pub returns-in-Ok : goal.returns-in-Ok
returns-in-Ok c =
    let shape = subst (λ words. HasShape (map string_bytes words)) c.deref.ensures.value
    (c.if-not-has_shape.ensures.yes refl) in
    answered (map string_bytes c.args.words.now.items) c.job_told.result _ shape c.in-Ok.ensures.told
    c.job_told.ensures.found c.job_told.ensures.none

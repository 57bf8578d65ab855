use Rattle.std.proofs.Common.{ap, ap₂, map, string_bytes, ◌∙◌}
use Rattle.std.proofs.lemmas.Result.{IfErr-weaker}
use Rattle.clap.specs.Words.{takes}
use Rattle.hls_view_words.proofs.Taken.{takes_view}
use Rattle.hls_view_words.proofs.parsing.matched.Goals as goal

pub returns : goal.returns
returns c =
    IfErr-weaker c.try_get_matches_from.result _ _ (λ e h view asked.
    h (ap₂ takes c.in_ok-hlsview.ensures (ap (map string_bytes) c.as_slice.ensures.value) ∙ takes_view _ view asked))
    c.try_get_matches_from.ensures.passes

use Rattle.std.proofs.Common.{ap, ap₂, map, string_bytes, ◌∙◌}
use Rattle.std.proofs.lemmas.Result.{IfErr-weaker, IfOk-weaker}
use Rattle.clap.specs.Words.{is_simple, subcommand_of, takes}
use Rattle.hls_top_words.specs.Inside.Shapes.{told}
use Rattle.hls_top_words.proofs.Taken.{takes_job}
use Rattle.hls_top_words.proofs.Telling.{simple}
use Rattle.hls_top_words.proofs.parsing.matched.Goals as goal

pub returns : goal.returns
returns c =
    let same = c.in_ok-hls.ensures in
    let words = ap (map string_bytes) c.as_slice.ensures.value in
    record {
      told = IfOk-weaker c.try_get_matches_from.result _ _ (λ m h.
          ap told ((h (ap is_simple same ∙ simple)).1 ∙ ap₂ subcommand_of same words))
          c.try_get_matches_from.ensures.matches;
      refused = IfErr-weaker c.try_get_matches_from.result _ _ (λ e h job asked.
          h (ap₂ takes same words ∙ takes_job _ job asked))
          c.try_get_matches_from.ensures.passes;
    }

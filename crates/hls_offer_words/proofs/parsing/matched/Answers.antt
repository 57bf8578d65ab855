use Rattle.std.proofs.Common.{ap, map, string_bytes, ◌∙◌}
use Rattle.std.proofs.lemmas.Result.{IfErr-weaker, IfOk-weaker}
use Rattle.clap.specs.Words.{is_simple, subcommand_of, takes}
use Rattle.hls_offer_words.specs.Inside.Shapes.{told}
use Rattle.hls_offer_words.proofs.Walking.{simple}
use Rattle.hls_offer_words.proofs.Taking.{takes_shape}
use Rattle.hls_offer_words.proofs.Standing.{shape_of_asked}
use Rattle.hls_offer_words.proofs.parsing.matched.Goals as goal

pub returns : goal.returns
returns c =
    let same = c.in_ok-hlsoffer.ensures in
    let words = map string_bytes c.args.words.now in
    record {
      told = IfOk-weaker c.try_get_matches_from.result _ _ (λ m h.
          ap told ((h (ap is_simple same ∙ simple)).1 ∙ ap (λ a. subcommand_of a words) same))
          c.try_get_matches_from.ensures.matches;
      refused = IfErr-weaker c.try_get_matches_from.result _ _ (λ e h a asked.
          h (ap (λ app. takes app words) same ∙ takes_shape words (shape_of_asked words a asked)))
          c.try_get_matches_from.ensures.passes;
    }

use Rattle.std.proofs.Common.{rules, ◌≡◌, ◌∷◌, ◌∙◌, sym, subst, true, string_bytes}
use Rattle.hls_offer_words.specs.Inside.Shapes.{is_plain}
use Rattle.hls_offer_words.proofs.Telling.{options_more}
use Rattle.hls_offer_words.proofs.table.options_in.Goals as goal

pub loop-word-preserved : goal.loop-word-preserved
loop-word-preserved c =
    let left : c.loop-word.options.now ≡ c.in-Some.word.now ∷ c.in-Some.rest.now = search rules in
    let kept = c.loop-word.invariant in
    options_more string_bytes c.args.words.now c.loop-word.options.now c.in-Some.rest.now c.in-Some.word.now kept.0
    kept.1 kept.2 left
    (subst (λ w. is_plain w ≡ true) c.as_str.ensures.value (sym c.is_plain.ensures ∙ c.if-not-is_plain.false))

use Rattle.std.proofs.Common.{◌∙◌, ap, ap₂, sym, arith, map, string_bytes, [], ◌∷◌}
use Rattle.hls_text.specs.Lines.{Text}
use Rattle.hls_top_words.proofs.Standing.{one_item, two_items, joined, side_by_side}
use Rattle.hls_top_words.proofs.table.may_state.Goals as goal

pub returns-in-len1-clause-yes : goal.returns-in-len1-clause-yes
returns-in-len1-clause-yes c = λ yes.
    let one = one_item c.args.options.now c.word-item.result c.word-item.is (omega arith) (omega arith) in
    joined c.stated_in.result _ _ (ap (map string_bytes) one ∙ ap (λ w. w ∷ []) (sym c.as_str.ensures.value))
    (sym c.is_some.ensures ∙ yes) c.stated_in.ensures.found

pub returns-in-len2-clause-yes : goal.returns-in-len2-clause-yes
returns-in-len2-clause-yes c = λ yes.
    let both = c.may_stand_apart.ensures.yes yes in
    let two = two_items c.args.options.now c.option-item.result c.word-item-then-options-lt3.result c.option-item.is
    c.word-item-then-options-lt3.is (omega arith) (omega arith) in
    let option = sym c.as_str-in-len2.ensures.value in
    let word = sym c.as_str-in-len2-2.ensures.value in
    side_by_side _ c.as_str-in-len2.result.now c.as_str-in-len2-2.result.now
    (ap (map string_bytes) two ∙ ap₂ (λ (v w : Text). v ∷ w ∷ []) option word) both.0 both.1

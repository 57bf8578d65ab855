use Rattle.std.proofs.Common.{◌∙◌, ap, sym, arith, map, string_bytes, [], ◌∷◌}
use Rattle.hls_top_words.proofs.Digits.{no_number}
use Rattle.hls_top_words.proofs.Standing.{one_item}
use Rattle.hls_top_words.proofs.table.may_give.Goals as goal

pub returns-in-len1-clause-no : goal.returns-in-len1-clause-no
returns-in-len1-clause-no c = λ no number has.
    let one = one_item c.args.options.now c.word-item.result c.word-item.is (omega arith) (omega arith) in
    no (c.begins_with_digit.ensures
    ∙ no_number _ number _ (ap (map string_bytes) one ∙ ap (λ w. w ∷ []) (sym c.as_str.ensures.value)) has)

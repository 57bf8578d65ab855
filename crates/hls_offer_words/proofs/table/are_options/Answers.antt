use Rattle.std.proofs.Common.{map, string_bytes}
use Rattle.hls_offer_words.proofs.Tails.{no_texts, empty_texts}
use Rattle.hls_offer_words.proofs.Telling.{some_options, no_options}
use Rattle.hls_offer_words.proofs.table.are_options.Goals as goal

pub returns-clause-yes : goal.returns-clause-yes
returns-clause-yes c = λ yes.
    some_options (map string_bytes c.args.words.now) (map string_bytes c.after_option.result.now)
    (map string_bytes c.after_option-2.result.now) c.after_option.ensures c.after_option-2.ensures
    (no_texts string_bytes c.after_option-2.result.now c.is_empty.result c.is_empty.ensures yes)

pub returns-clause-no : goal.returns-clause-no
returns-clause-no c = λ no m n low high e.
    no (empty_texts string_bytes c.after_option-2.result.now c.is_empty.result c.is_empty.ensures
    (no_options (map string_bytes c.args.words.now) (map string_bytes c.after_option.result.now)
    (map string_bytes c.after_option-2.result.now) m n c.after_option.ensures c.after_option-2.ensures low high e))

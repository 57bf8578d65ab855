use Rattle.std.proofs.Common.{map, string_bytes}
use Rattle.hls_offer_words.proofs.Telling.{not_shaped}
use Rattle.hls_offer_words.proofs.table.may_ask.Goals as goal

pub returns-clause-no : goal.returns-clause-no
returns-clause-no c = λ no.
    not_shaped c.args.first.now (map string_bytes c.args.behind.now) (map string_bytes c.options_in.result.now)
    c.options_in.ensures (c.are_options.ensures.no no)

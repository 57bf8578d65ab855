use Rattle.std.proofs.Common.{◌∙◌, sym}
use Rattle.hls_text.proofs.NumberLaws.{told}
use Rattle.hls_text.proofs.numbers.number.Goals as goal

pub returns-then-is_number_text : goal.returns-then-is_number_text
returns-then-is_number_text c = told c.args.token.now c.capped_value.result (sym c.is_number_text.ensures
    ∙ c.if-is_number_text.true) c.capped_value.ensures

use Rattle.std.proofs.Common.{◌∙◌, ◌∷◌, ap, map, string_bytes, subst}
use Rattle.clap.specs.Words.{found_of, rows_of}
use Rattle.hls_offer_words.specs.Table.{IsNotAsked}
use Rattle.hls_offer_words.specs.Inside.Readings.{IsQuestionIn}
use Rattle.hls_offer_words.specs.Inside.Shapes.{at_in, depth_in, words_in, timeless}
use Rattle.hls_offer_words.proofs.Telling.{told_question}
use Rattle.hls_offer_words.proofs.told.asked_by.Goals as goal

pub returns-in-Ok-Some : goal.returns-in-Ok-Some
returns-in-Ok-Some c =
    let rows = rows_of (found_of c.args.matches.now) in
    let rest = map string_bytes c.in-Ok-Some.known.rest.now in
    let same = ap (map string_bytes) c.deref.ensures.value ∙ c.in_ok-words.ensures in
    told_question c.args.first.now (words_in rows) rest (at_in rows) (depth_in rows) c.in-Some.at
    c.in-Some-number_found.depth c.in-Ok-Some.known.question c.asked_with.result c.in-Some.ensures.found
    c.in-Some-number_found.ensures.found
    (subst (λ ws. IsQuestionIn (c.args.first.now ∷ ws) c.in-Ok-Some.known.question rest) same
    (rw c.in-Ok-Some.field-0-is at c.in-Ok-Some.ensures)) c.asked_with.ensures

pub returns-in-Ok-None : goal.returns-in-Ok-None
returns-in-Ok-None c = λ a tells.
    let same = ap (map string_bytes) c.deref.ensures.value ∙ c.in_ok-words.ensures in
    subst (λ ws. IsNotAsked (c.args.first.now ∷ ws)) same (rw c.in-Ok-None.field-0-is at c.in-Ok-None.ensures)
    (timeless a) tells.question

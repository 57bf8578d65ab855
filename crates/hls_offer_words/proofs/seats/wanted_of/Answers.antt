use Rattle.std.proofs.Common.{refl, string_bytes}
use Rattle.hls_offer_words.proofs.Admitted.{wanted_told, no_wanted_told}
use Rattle.hls_offer_words.proofs.seats.wanted_of.Goals as goal

pub returns-then-not-are_words : goal.returns-then-not-are_words
returns-then-not-are_words c =
    no_wanted_told string_bytes c.args.words.now c.are_words.result c.are_words.ensures c.if-not-are_words.true

pub returns : goal.returns
returns c =
    wanted_told string_bytes c.args.words.now c.are_words.result _ _ _ _ c.wanted_on.result c.are_words.ensures
    c.if-not-are_words.false c.new-line.ensures.items c.in_ok-put.ensures c.in_ok-put_words.ensures
    refl (rw c.deref.ensures.value at c.wanted_on.ensures)

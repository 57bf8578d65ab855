use Rattle.std.proofs.Common.{◌∙◌, ap, codes, map, string_bytes}
use Rattle.std.proofs.lemmas.Result.{IfOk-weaker}
use Rattle.clap.specs.Words.{found_of, rows_of}
use Rattle.clap.proofs.WalkLemmas.{raw_values-rows}
use Rattle.hls_offer_words.proofs.Telling.{found_words, no_words}
use Rattle.hls_offer_words.proofs.told.words_found.Goals as goal

pub returns-in-Some : goal.returns-in-Some
returns-in-Some c =
    let rows = c.get_strs.ensures ∙ raw_values-rows (found_of c.args.matches.now) (codes "words") in
    IfOk-weaker c.copied.result _ _ (λ words e.
    e ∙ found_words c.get_strs.result c.in-Some.found (rows_of (found_of c.args.matches.now)) rows c.in-Some.is)
    c.copied.ensures

pub returns-in-None : goal.returns-in-None
returns-in-None c =
    let rows = c.get_strs.ensures ∙ raw_values-rows (found_of c.args.matches.now) (codes "words") in
    ap (map string_bytes) c.new.ensures.items
    ∙ no_words c.get_strs.result (rows_of (found_of c.args.matches.now)) rows c.in-None.is

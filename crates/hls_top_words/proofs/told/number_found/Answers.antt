use Rattle.std.proofs.Common.{◌∙◌, sym, codes}
use Rattle.clap.specs.Words.{found_of}
use Rattle.hls_top_words.proofs.Rows.{first_of-rows, not_told, told_one, none_told}
use Rattle.hls_top_words.proofs.told.number_found.Goals as goal

pub returns-in-Some-clause-found : goal.returns-in-Some-clause-found
returns-in-Some-clause-found c =
    told_one _ _ _ (c.in-Some.ensures ∙ sym (first_of-rows (found_of c.args.matches.now) (codes "number")))
    c.number_of_text.ensures.found

pub returns-in-Some-clause-none : goal.returns-in-Some-clause-none
returns-in-Some-clause-none c = λ none.
    none_told _ _ (c.in-Some.ensures ∙ sym (first_of-rows (found_of c.args.matches.now) (codes "number")))
    (c.number_of_text.ensures.none none)

pub returns-in-None-clause-none : goal.returns-in-None-clause-none
returns-in-None-clause-none c = λ none.
    not_told _ (c.in-None.ensures ∙ sym (first_of-rows (found_of c.args.matches.now) (codes "number")))

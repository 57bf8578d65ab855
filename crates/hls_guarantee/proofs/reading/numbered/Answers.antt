use Rattle.std.proofs.Common.{◌∷◌, ◌++◌, sym, subst}
use Rattle.hls_guarantee.specs.Spelling.{HasFields}
use Rattle.hls_guarantee.proofs.Spellings.{parts_of}
use Rattle.hls_guarantee.proofs.reading.numbered.Goals as goal

pub returns-in-Some-clause-exact : goal.returns-in-Some-clause-exact
returns-in-Some-clause-exact c = λ g valid all null is.
    let p = parts_of g c.args.text.now valid all null is in
    let cut = c.in-Some.ensures.first p.word (p.first ++ (32 ∷ p.second)) p.whole p.lacks_word in
    let fields = subst (λ w. HasFields g w p.first p.second) (sym cut.0) p.fields in
    c.after_word.ensures.exact g p.first p.second valid fields cut.1 p.lacks_first

pub returns-in-None-clause-exact : goal.returns-in-None-clause-exact
returns-in-None-clause-exact c = λ g valid all null is.
    let p = parts_of g c.args.text.now valid all null is in
    absurd (c.in-None.ensures.first p.word (p.first ++ (32 ∷ p.second)) p.whole p.lacks_word)

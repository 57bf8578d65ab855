use Rattle.hls_offer_laws.proofs.Counting.{share-wide, shares-ticks}
use Rattle.hls_offer_laws.proofs.candidates.shared_ticks.Goals as goal

pub most_ticks-requires-clause-share : goal.most_ticks-requires-clause-share
most_ticks-requires-clause-share c =
    let found = c.in-Some-Psbe in
    share-wide c.args.lent.now found.field-0 found.s found.d c.requires.lent found.ensures.share found.field-0-is

pub returns-in-Some-Psbe : goal.returns-in-Some-Psbe
returns-in-Some-Psbe c = λ x.
    let found = c.in-Some-Psbe in
    let most = shares-ticks c.args.lent.now found.field-0 found.s found.d x c.args.y found.ensures.share
    found.field-0-is in
    (λ is. most.0 ((c.most_ticks.ensures x).0 is), λ its. (c.most_ticks.ensures x).1 (most.1 its))

use Rattle.hls_offer_laws.proofs.Counting.{share-wide, shares-wait}
use Rattle.hls_offer_laws.proofs.candidates.shared_wait.Goals as goal

pub least_wait-requires : goal.least_wait-requires
least_wait-requires c =
    let found = c.in-Some-Psbe in
    share-wide c.args.lent.now found.field-0 found.s found.d c.requires found.ensures.share found.field-0-is

pub returns-in-Some-Psbe : goal.returns-in-Some-Psbe
returns-in-Some-Psbe c = λ x.
    let found = c.in-Some-Psbe in
    let least = shares-wait c.args.lent.now found.field-0 found.s found.d x found.ensures.share found.field-0-is in (
      λ is. (let its = (c.least_wait.ensures x).0 is in (least.0 its.0, its.1)),
      λ its. (c.least_wait.ensures x).1 (least.1 its.0, its.1),
    )

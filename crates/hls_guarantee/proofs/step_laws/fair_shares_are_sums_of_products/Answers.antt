use Rattle.hls_guarantee.proofs.FairShares.{AreFractions, share-fractions, fractions-share}
use Rattle.hls_guarantee.proofs.step_laws.fair_shares_are_sums_of_products.Goals as goal

pub returns : goal.returns
returns c =
    let a = c.args in
    let r = c.requires in
    let are : AreFractions a.sharing a.weight a.d a.part a.others a.waiting a.slowed a.rest =
    record {
      part_is = r.part;
      others_are = r.others;
      waiting_is = r.waiting;
      slowed_is = r.slowed;
      rest_is = r.rest;
    } in (
      share-fractions a.sharing a.weight a.s a.d a.part a.others a.waiting a.slowed a.rest a.rate a.error
          r.weight are,
      fractions-share a.sharing a.weight a.s a.d a.part a.others a.waiting a.slowed a.rest a.rate a.error
          r.most r.weight r.total are,
    )

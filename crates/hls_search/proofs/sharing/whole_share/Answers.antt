use Rattle.hls_guarantee.specs.declared.Guarantee.TheVariants.{Psbe}
use Rattle.hls_search_laws.proofs.Makes.{narrow-valid}
use Rattle.hls_search.proofs.BestShares.{whole-narrow}
use Rattle.hls_search.proofs.sharing.whole_share.Goals as goal

pub returns-clause-valid : goal.returns-clause-valid
returns-clause-valid c =
    let s = c.quotient.result in
    let d = c.quotient-2.result in
    narrow-valid (Psbe s d) (whole-narrow s d (c.quotient.ensures, c.quotient-2.ensures))

use Rattle.hls_chron.specs.declared.plain.Terms.TheVariants.{Weight}
use Rattle.hls_chron.specs.Kinds.{by_shares}
use Rattle.hls_guarantee.specs.declared.Guarantee.TheVariants.{Psbe}
use Rattle.hls_search.proofs.Taking.{others_of, fair-lends, part-found}
use Rattle.hls_search.proofs.sharing.fair_before.Goals as goal

pub returns-clause-some : goal.returns-clause-some
returns-clause-some c =
    let a = c.args in
    let sharing = a.sharing.now in
    part-found (by_shares sharing) (Weight a.weight) a.weight sharing.total (others_of sharing a.weight)
    c.share_before.result (Psbe a.rate.now a.error.now)
    (fair-lends sharing a.weight c.requires.config c.requires.terms c.if-weight-total.false)
    c.share_before.ensures.some

pub returns-clause-none : goal.returns-clause-none
returns-clause-none c = λ none given valid lends.
    let a = c.args in
    let sharing = a.sharing.now in
    let by = fair-lends sharing a.weight c.requires.config c.requires.terms c.if-weight-total.false in
    c.share_before.ensures.none none given valid (by.part given (Psbe a.rate.now a.error.now) lends)

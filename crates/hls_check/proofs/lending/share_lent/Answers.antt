use Rattle.std.proofs.Common.{ℕ, ◌≤◌}
use Rattle.hls_chron.specs.declared.plain.Sharing.{Sharing}
use Rattle.hls_chron.specs.declared.plain.Terms.TheVariants.{Weight}
use Rattle.hls_chron.specs.Kinds.{by_shares}
use Rattle.hls_chron.specs.Ranges.{ConfigInRange, TermsInRange}
use Rattle.hls_guarantee.proofs.FairShares.{fractions-share}
use Rattle.hls_check.proofs.ShareSizes.{IsWeight, rate-fits, waiting-fits, slowed-fits, error-fits}
use Rattle.hls_check.proofs.lending.share_lent.Goals as goal

weighs : {sharing : Sharing} {weight : ℕ} → ConfigInRange (by_shares sharing) → TermsInRange (Weight weight)
    → weight ≤ sharing.total → IsWeight sharing weight
weighs config w fits = record {
  some = w.0;
  light = w.1;
  fits = fits;
  small = config.0.1;
  seats = config.1.0;
  few = config.1.1;
  short = config.2.1;
}

pub mul-requires : goal.mul-requires
mul-requires c =
    let a = c.args in
    let sharing = a.sharing.now in
    let size = weighs c.requires.config c.requires.terms c.if-weight-total.false in
    rate-fits sharing a.weight a.s.now a.d.now c.quotient-part.result c.requires.share size
    c.quotient-part.ensures

pub add-requires : goal.add-requires
add-requires c =
    let a = c.args in
    let sharing = a.sharing.now in
    let size = weighs c.requires.config c.requires.terms c.if-weight-total.false in
    waiting-fits sharing a.weight a.s.now a.d.now c.quotient-others.result c.requires.share size
    c.quotient-others.ensures

pub mul-requires-2 : goal.mul-requires-2
mul-requires-2 c =
    let a = c.args in
    let sharing = a.sharing.now in
    let size = weighs c.requires.config c.requires.terms c.if-weight-total.false in
    slowed-fits sharing a.weight a.s.now a.d.now c.quotient-part.result c.quotient-others.result
    c.add.result c.requires.share size c.quotient-part.ensures c.quotient-others.ensures c.add.ensures

pub add-requires-2 : goal.add-requires-2
add-requires-2 c =
    let a = c.args in
    let sharing = a.sharing.now in
    let size = weighs c.requires.config c.requires.terms c.if-weight-total.false in
    error-fits sharing a.weight a.s.now a.d.now c.quotient-part.result c.quotient-others.result
    c.add.result c.mul-2.result c.quotient-rest.result c.requires.share size c.quotient-part.ensures
    c.quotient-others.ensures c.add.ensures c.mul-2.ensures c.quotient-rest.ensures

pub returns-clause-some : goal.returns-clause-some
returns-clause-some c =
    let a = c.args in
    let sharing = a.sharing.now in
    let r = c.requires in
    fractions-share sharing a.weight a.s.now a.d.now c.quotient-part.result c.quotient-others.result
    c.add.result c.mul-2.result c.quotient-rest.result c.mul.result c.add-2.result r.config.1.0 r.terms.0
    c.if-weight-total.false (record {
      part_is = c.quotient-part.ensures;
      others_are = c.quotient-others.ensures;
      waiting_is = c.add.ensures;
      slowed_is = c.mul-2.ensures;
      rest_is = c.quotient-rest.ensures;
    }) (c.mul.ensures, c.add-2.ensures)

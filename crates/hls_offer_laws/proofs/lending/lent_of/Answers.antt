use Rattle.std.proofs.Common.{◌≡◌, ◌∙◌, subst, sym}
use Rattle.hls_chron.specs.declared.plain.Kind.TheVariants as kinds
use Rattle.hls_chron.specs.Kinds.{kind_of}
use Rattle.hls_guarantee.specs.Steps.{LendsByTerms}
use Rattle.hls_search.specs.Inside.Places.{LendsSharesOf}
use Rattle.hls_search_laws.proofs.Makes.{narrow-valid}
use Rattle.hls_offer_laws.proofs.Shares.{share-valid, share-one}
use Rattle.hls_offer_laws.proofs.Lent.{IsPlain, plain, of-plain, plain-of}
use Rattle.hls_offer_laws.proofs.Lent.{shares, of-share, share-by, by-join, join-by, on-each}
use Rattle.hls_offer_laws.proofs.lending.lent_of.Goals as goal

pub lent_by_terms-requires-clause-from : goal.lent_by_terms-requires-clause-from
lent_by_terms-requires-clause-from c =
    let share = c.in_ok-share_of-in-Sfq.field-0 in
    share-valid c.args.have.now share (narrow-valid c.args.have.now c.requires.have)
    c.in_ok-share_of-in-Sfq.ensures.share

pub returns-in-Join : goal.returns-in-Join
returns-in-Join c = λ lent.
    let place = c.args.place.now in
    let have = c.args.have.now in
    let is-join : kind_of place.config ≡ kinds.Join = sym c.kind.ensures ∙ c.in-Join.is in
    let exact = c.passed_on.ensures lent in (
      λ is. (let all = exact.0 is in
          (join-by place.config place.terms have lent is-join all.0 all.1, all.2)),
      λ both. (let all = by-join place.config place.terms have lent is-join both.0 in
          exact.1 (all.0, all.1, both.1)),
    )

pub returns-in_ok-share_of-in-Sfq : goal.returns-in_ok-share_of-in-Sfq
returns-in_ok-share_of-in-Sfq c =
    let place = c.args.place.now in
    let have = c.args.have.now in
    let kind = kind_of place.config in
    let takes : LendsSharesOf kind = subst LendsSharesOf c.kind.ensures (shares c.in-Sfq.is) in
    let share = c.in_ok-share_of-in-Sfq.field-0 in
    let is = c.in_ok-share_of-in-Sfq.ensures.share in
    on-each {found = c.lent_by_terms.result}
    (λ lent lends. share-by kind place.config place.terms have lent takes (share, is, lends))
    (λ lent lends.
    let its = of-share kind place.config place.terms have lent takes lends in
    subst (λ v. LendsByTerms place.config place.terms v lent) (share-one have its.0 share its.1 is) its.2)
    c.lent_by_terms.ensures

pub returns-in-Cpu : goal.returns-in-Cpu
returns-in-Cpu c =
    let place = c.args.place.now in
    let have = c.args.have.now in
    let kind = kind_of place.config in
    let is : IsPlain kind = subst IsPlain c.kind.ensures (plain c.in-Cpu.is) in
    on-each {found = c.lent_by_terms-in-Cpu.result}
    (λ lent lends. plain-of kind place.config place.terms have lent is lends)
    (λ lent lends. of-plain kind place.config place.terms have lent is lends) c.lent_by_terms-in-Cpu.ensures

use Rattle.std.proofs.Common.{inl, refl, subst}
use Rattle.hls_guarantee.specs.Steps.{LendsByTerms}
use Rattle.hls_search.proofs.Completing.{derived-after}
use Rattle.hls_search.proofs.Hitting.{sole-have, lent-found}
use Rattle.hls_search.proofs.searching.converted_after.Goals as goal

pub returns-in_err-to-clause-none : goal.returns-in_err-to-clause-none
returns-in_err-to-clause-none g c = λ none d is few.
    let place = c.args.place.now in
    let haves = c.args.haves.now in
    let want = c.args.want.now in
    let same = sole-have place haves want c.have_at-have.result d
    (inl c.requires.kind) c.have_at-have.ensures.there is in
    let hit = derived-after place haves want d c.args.depth c.requires.fits c.requires.some is few c.requires.kind in
    c.in_err-to.ensures.none refl hit.0 (subst (λ v. LendsByTerms place.config place.terms v hit.0) same hit.1)

pub returns-in_err-after-clause-none : goal.returns-in_err-after-clause-none
returns-in_err-after-clause-none g c = λ none d is few.
    let place = c.args.place.now in
    let haves = c.args.haves.now in
    let want = c.args.want.now in
    let have = c.have_at-have.result in
    let same = sole-have place haves want have d (inl c.requires.kind) c.have_at-have.ensures.there is in
    let hit = derived-after place haves want d c.args.depth c.requires.fits c.requires.some is few c.requires.kind in
    let lends = subst (λ v. LendsByTerms place.config place.terms v hit.0) same hit.1 in
    c.in_err-after.ensures.none refl (lent-found place.config place.terms have hit.0 c.in_ok-to.to want c.args.depth
    c.requires.fits.config lends c.in_ok-to.ensures.some hit.2)

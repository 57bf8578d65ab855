use Rattle.std.proofs.Common.{◌≡◌, ◌-◌, length, refl, sym, subst, inl, arith}
use Rattle.hls_guarantee.specs.Steps.{LendsThrough}
use Rattle.hls_search_laws.specs.Words.{IsFound}
use Rattle.hls_search_laws.proofs.Makes.{narrow-valid}
use Rattle.hls_search.specs.Inside.Chains.{LeadsTo}
use Rattle.hls_search.specs.Inside.Found.{Derives}
use Rattle.hls_chron.proofs.ConfigLaws.{first_port}
use Rattle.hls_search.proofs.Deriving.{lent-valid, leads-exact, derives}
use Rattle.hls_search.proofs.Hitting.{best-hit, lent-found}
use Rattle.hls_search.proofs.searching.by_best_share.Goals as goal

pub returns-then-len-depth-clause-none : goal.returns-then-len-depth-clause-none
returns-then-len-depth-clause-none g c = λ none other too hit.
    let place = c.args.place.now in
    let best = c.in_ok-best.best in
    let hits = best-hit place.config place.terms c.args.depth
    (length best.before) c.have_at-have.result other best.share
    c.args.want.now c.args.haves.now c.have_at-have.ensures.there too c.in_ok-best.ensures.best hit in
    absurd (omega (arith, hits.0))

pub returns-in_err-to-clause-none : goal.returns-in_err-to-clause-none
returns-in_err-to-clause-none g c = λ none other too hit.
    let place = c.args.place.now in
    let best = c.in_ok-best.best in
    let hits = best-hit place.config place.terms c.args.depth
    (length best.before) c.have_at-have.result other best.share
    c.args.want.now c.args.haves.now c.have_at-have.ensures.there too c.in_ok-best.ensures.best hit in
    c.in_err-to.ensures.none refl hits.1 hits.2

pub convert-requires-clause-from : goal.convert-requires-clause-from
convert-requires-clause-from g c =
    let place = c.args.place.now in
    lent-valid place.config place.terms c.in_ok-best.best.share c.in_ok-to.to c.requires.fits.config
    c.requires.fits.terms c.in_ok-best.ensures.narrow c.in_ok-to.ensures.some

pub returns-in_err-after-clause-none : goal.returns-in_err-after-clause-none
returns-in_err-after-clause-none g c = λ none other too hit.
    let place = c.args.place.now in
    let best = c.in_ok-best.best in
    let hits = best-hit place.config place.terms c.args.depth
    (length best.before) c.have_at-have.result other best.share
    c.args.want.now c.args.haves.now c.have_at-have.ensures.there too c.in_ok-best.ensures.best hit in
    let found = lent-found place.config place.terms best.share hits.1 c.in_ok-to.to c.args.want.now
    (c.args.depth - length best.before) c.requires.fits.config hits.2 c.in_ok-to.ensures.some hits.3 in
    let room : c.len-2.result ≡ length best.before = c.len-2.ensures in
    c.in_err-after.ensures.none refl
    (subst (λ k. IsFound (c.args.depth - k) c.in_ok-to.to c.args.want.now) (sym room) found)

pub returns-clause-found : goal.returns-clause-found
returns-clause-found g c =
    let place = c.args.place.now in
    let haves = c.args.haves.now in
    let want = c.args.want.now in
    let have = c.have_at-have.result in
    let best = c.in_ok-best.best in
    let count = length best.before in
    let to = c.in_ok-to.to in
    let after = c.in_ok-after.after in
    let size : c.len.result ≡ count = c.len.ensures in
    let room : c.len-2.result ≡ count = c.len-2.ensures in
    let leads : LeadsTo (c.args.depth - c.len-2.result) to want after = c.in_ok-after.ensures.found in
    let left : LeadsTo (c.args.depth - count) to want after =
    subst (λ k. LeadsTo (c.args.depth - k) to want after) room leads in
    let lends : LendsThrough place.config place.terms 0 best.share to = record {
      from = narrow-valid best.share c.in_ok-best.ensures.narrow;
      to = lent-valid place.config place.terms best.share to c.requires.fits.config c.requires.fits.terms
          c.in_ok-best.ensures.narrow c.in_ok-to.ensures.some;
      port_of = first_port place.config c.requires.fits.config;
      lends = inl c.in_ok-to.ensures.some;
    } in
    let found = derives place haves want c.args.depth count (c.args.depth - count) 0 have best.share to best.before
    after c.have_at-have.ensures.there lends
    (leads-exact 1 have best.share best.before c.in_ok-best.ensures.leads) left (omega arith) in
    subst (λ v. Derives place haves want c.args.depth v) (sym c.lent_at.ensures) found

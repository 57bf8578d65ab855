use Rattle.std.proofs.Common.{◌≡◌, inl, inr, refl, sym, subst}
use Rattle.std.specs.Prelude.{Some, slice_get}
use Rattle.hls_search.specs.Inside.Places.{HitsByBest, HitsByGoal}
use Rattle.hls_search.proofs.Completing.{derived-shares}
use Rattle.hls_search.proofs.Deriving.{sole-port}
use Rattle.hls_search.proofs.searching.shared.Goals as goal

pub returns-then-is_beyond-clause-none : goal.returns-then-is_beyond-clause-none
returns-then-is_beyond-clause-none g c = λ none d is few.
    let place = c.args.place.now in
    let haves = c.args.haves.now in
    let want = c.args.want.now in
    let port : d.sched.port ≡ 0 = sole-port place.config d.sched.port (inr c.requires.kind) is.sched.through.port_of in
    let there : slice_get haves 0 ≡ Some d.from = subst (λ k. slice_get haves k ≡ Some d.from) port is.starts in
    let same : c.have_at.result ≡ d.from = (let at = c.have_at.ensures.there in cc) in
    elim (derived-shares place haves want d c.args.depth c.requires.fits c.requires.some is few c.requires.kind) [
      | inl hit ↦ c.is_beyond.ensures.best c.if-is_beyond.true c.args.depth
          (subst (λ v. HitsByBest place.config place.terms c.args.depth v want) (sym same) hit)
      | inr hit ↦ c.is_beyond.ensures.goal c.if-is_beyond.true c.args.depth
          (subst (λ v. HitsByGoal place.config place.terms c.args.depth v want) (sym same) hit)
    ]

pub returns-in-None-clause-none : goal.returns-in-None-clause-none
returns-in-None-clause-none g c = λ none d is few.
    let place = c.args.place.now in
    let haves = c.args.haves.now in
    let want = c.args.want.now in
    let port : d.sched.port ≡ 0 = sole-port place.config d.sched.port (inr c.requires.kind) is.sched.through.port_of in
    let there : slice_get haves 0 ≡ Some d.from = subst (λ k. slice_get haves k ≡ Some d.from) port is.starts in
    elim (derived-shares place haves want d c.args.depth c.requires.fits c.requires.some is few c.requires.kind) [
      | inl hit ↦ c.in-None.ensures.none refl d.from there hit
      | inr hit ↦ c.by_goal.ensures.none none d.from there hit
    ]

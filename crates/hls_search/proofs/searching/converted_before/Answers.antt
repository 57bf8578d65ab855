use Rattle.std.proofs.Common.{inl, refl, arith}
use Rattle.hls_search_laws.proofs.Makes.{narrow-valid}
use Rattle.hls_chron.proofs.ConfigLaws.{first_port}
use Rattle.hls_search.proofs.Completing.{derived-before}
use Rattle.hls_search.proofs.Hitting.{none_found-more, found-nowhere}
use Rattle.hls_search.proofs.searching.converted_before.Goals as goal

pub returns-then-not-lends-clause-none : goal.returns-then-not-lends-clause-none
returns-then-not-lends-clause-none g c = λ none d is few.
    let place = c.args.place.now in
    let haves = c.args.haves.now in
    let want = c.args.want.now in
    let valid = narrow-valid want c.requires.fits.wanted in
    let hit = derived-before place haves want d c.args.depth c.requires.fits c.requires.some is few c.requires.kind in
    let yes = c.lends.ensures.1 (record {
      from = valid;
      to = valid;
      port_of = first_port place.config c.requires.fits.config;
      lends = inl hit.0;
    }) in
    let no = c.if-not-lends.true in
    (let none : ⊥ = cc in none)

pub loop-port-init : goal.loop-port-init
loop-port-init g c = λ port less. absurd (omega arith)

pub loop-port-preserved : goal.loop-port-preserved
loop-port-preserved g c =
    none_found-more c.args.haves.now c.args.want.now c.have_at-have.result c.args.depth c.loop-port.port
    c.have_at-have.ensures.there (c.in_default.ensures.none refl) c.loop-port.invariant

pub returns-clause-none : goal.returns-clause-none
returns-clause-none g c = λ none d is few.
    let place = c.args.place.now in
    let haves = c.args.haves.now in
    let want = c.args.want.now in
    let hit = derived-before place haves want d c.args.depth c.requires.fits c.requires.some is few c.requires.kind in
    found-nowhere place haves want d c.args.depth c.loop-port.port c.loop-port-test.false c.loop-port.invariant is hit.1

use Rattle.std.proofs.Common.{◌≡◌, ℕ, Some, refl, subst, arith, length, slice_get}
use Rattle.std.proofs.lemmas.Option.{slice_get_read}
use Rattle.hls_manager.specs.Inside.Loads.{AreTold}
use Rattle.hls_manager.proofs.LoadTold.{none_told, one_told, untold}
use Rattle.hls_manager.proofs.loading.derive_all.Goals as goal

pub loop-port-init : goal.loop-port-init
loop-port-init g c = λ h tree is.
    rw c.in_ok-told.ensures.items (none_told h c.args.depth c.args.name.now c.args.seats.now)

pub loop-port-preserved : goal.loop-port-preserved
loop-port-preserved g c =
    let at : slice_get c.args.seats.now c.loop-port.port ≡ Some c.index-seats-port.result =
    slice_get_read c.args.seats.now _ c.loop-port.port c.index-seats-port.result refl c.loop-port-test.true
    c.index-seats-port.is in
    λ h tree is.
    one_told h c.args.depth c.args.name.now c.args.seats.now c.loop-port.port c.index-seats-port.result at
    c.loop-port.told.items (record {
      name = c.args.name.now;
      port = c.loop-port.port;
      derivation = c.in-Some.derivation;
    }) (c.loop-port.invariant h tree is) (record {
      named = refl;
      numbered = refl;
      derives = (rw c.in-Some.is at c.in_ok-derivation.ensures.found) h tree is c.args.name.now c.loop-port.port;
    }) _ c.in_ok-push.ensures.items

pub returns-in-None-clause-none : goal.returns-in-None-clause-none
returns-in-None-clause-none g c =
    let at : slice_get c.args.seats.now c.loop-port.port ≡ Some c.index-seats-port.result =
    slice_get_read c.args.seats.now _ c.loop-port.port c.index-seats-port.result refl c.loop-port-test.true
    c.index-seats-port.is in
    λ none h tree is.
    untold h c.args.depth c.args.name.now c.args.seats.now c.loop-port.port c.index-seats-port.result at
    c.loop-port.told.items (c.loop-port.invariant h tree is)
    ((rw c.in-None.is at c.in_ok-derivation.ensures.none) refl h tree is c.args.name.now c.loop-port.port)

pub returns-clause-told : goal.returns-clause-told
returns-clause-told g c = λ h tree is.
    (let end : c.loop-port.port ≡ length c.args.seats.now = omega arith in
    subst (λ (n : ℕ). AreTold h c.args.depth c.args.name.now c.args.seats.now n c.loop-port.told.items) end
    (c.loop-port.invariant h tree is))

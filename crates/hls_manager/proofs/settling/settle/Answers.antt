use Rattle.std.proofs.Common.{◌≡◌, Some, refl}
use Rattle.hls_manager.proofs.Options.{some_at, ok_is}
use Rattle.hls_manager.proofs.ShiftDues.{lacks_first}
use Rattle.hls_manager.proofs.Shifted.{rederived_first}
use Rattle.hls_manager.proofs.settling.settle.Goals as goal

pub returns-in-Ok : goal.returns-in-Ok
returns-in-Ok g c =
    let is : c.in-Ok-Some.field-0 ≡ Some c.in-Ok-Some.derivation =
    cc (c.in-Ok-Some.field-0-is) in
    let found = some_at c.in-Ok-Some.field-0 c.in-Ok-Some.derivation _ is c.in-Ok-Some.ensures.found in
    ok_is c.with_first.result _ _
    (λ h tree reached.
    rederived_first c.args.depth _ _ _ c.in-Ok.told
    (record { name = refl; port = refl; derives = found h tree reached c.args.name.now 0 })
    (c.in-Ok.ensures h tree reached))
    c.with_first.ensures

pub returns-in-Ok-None : goal.returns-in-Ok-None
returns-in-Ok-None g c =
    let none = c.in-Ok-None.ensures.none in
    λ h tree reached.
    lacks_first c.args.depth _ _ (none (rw c.in-Ok-None.field-0-is refl) h tree reached c.args.name.now 0)

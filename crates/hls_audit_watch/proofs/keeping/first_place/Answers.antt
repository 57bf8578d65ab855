use Rattle.std.proofs.Common.{◌≡◌, ◌+◌, length, arith, ◌∙◌}
use Rattle.hls_audit_watch.proofs.Rings.{place_earlier}
use Rattle.hls_audit_watch.proofs.keeping.first_place.Goals as goal

pub returns-else-start-eq0 : goal.returns-else-start-eq0
returns-else-start-eq0 c =
    let later : c.args.start + c.args.recent.now.period ≡ length c.args.recent.now.list + 1 =
    omega (arith, c.requires, c.if-start-eq0.false) in
    c.next_place.ensures
    ∙ place_earlier c.args.recent.now.period c.args.start (length c.args.recent.now.list + 1) later

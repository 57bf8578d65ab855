use Rattle.std.proofs.Common.{sym}
use Rattle.std.specs.Prelude.{None, Some}
use Rattle.hls_test_accounts.proofs.ScheduleLaws.{ends_in_place}
use Rattle.hls_test_accounts.proofs.schedule.ends_in.Goals as goal

pub returns-in-None : goal.returns-in-None
returns-in-None c =
    sym (ends_in_place c.args.names.now c.args.path.now c.args.name.now c.args.name.now None
    c.in-None.ensures)

pub returns-in-Some : goal.returns-in-Some
returns-in-Some c =
    let e = ends_in_place c.args.names.now c.args.path.now c.args.name.now c.args.name.now
    (Some c.in-Some.place)
    c.in-Some.ensures in
    rw e (rw (← c.name_at.ensures, ← c.bytes.ensures.text) c.eq.ensures)

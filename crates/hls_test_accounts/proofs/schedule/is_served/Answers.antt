use Rattle.std.proofs.Common.{sym}
use Rattle.hls_test_accounts.proofs.ScheduleLaws.{served_by_path, unserved_by_path, unserved_by_none}
use Rattle.hls_test_accounts.proofs.schedule.is_served.Goals as goal

pub returns-in-Some-path : goal.returns-in-Some-path
returns-in-Some-path c =
    let e = served_by_path c.args.report.now.names c.items.result.now c.args.report.now.runs c.args.name.now
    c.args.tick c.in-Some.run' c.in-Some-path.path c.items.ensures c.in-Some.ensures c.in-Some-path.is in
    rw e (rw (← c.items-in-Some-path.ensures) c.ends_in.ensures)

pub returns-in-None-path : goal.returns-in-None-path
returns-in-None-path c =
    sym (unserved_by_path c.args.report.now.names c.items.result.now c.args.report.now.runs c.args.name.now
    c.args.tick c.in-Some.run' c.items.ensures c.in-Some.ensures c.in-None-path.is)

pub returns-in-None : goal.returns-in-None
returns-in-None c =
    sym (unserved_by_none c.args.report.now.names c.items.result.now c.args.report.now.runs c.args.name.now
    c.args.tick c.items.ensures c.in-None.ensures)

use Rattle.std.proofs.Common.{is_none, sym, ap, ◌∙◌}
use Rattle.std.specs.Prelude.{None}
use Rattle.hls_test_accounts.proofs.ScheduleLaws.{path_of_run, idle_of_run}
use Rattle.hls_test_accounts.proofs.schedule.is_idle.Goals as goal

pub returns-in-Some-path : goal.returns-in-Some-path
returns-in-Some-path c =
    sym (ap is_none c.in-Some-path.is)
    ∙ idle_of_run c.args.report.now.names c.items.result.now c.args.report.now.runs c.args.tick c.in-Some.run'
    c.items.ensures c.in-Some.ensures

pub returns-in-None-path : goal.returns-in-None-path
returns-in-None-path c =
    sym (ap is_none c.in-None-path.is)
    ∙ idle_of_run c.args.report.now.names c.items.result.now c.args.report.now.runs c.args.tick c.in-Some.run'
    c.items.ensures c.in-Some.ensures

pub returns-in-None : goal.returns-in-None
returns-in-None c =
    sym (ap is_none (path_of_run c.args.report.now.names c.items.result.now c.args.report.now.runs c.args.tick
    None c.items.ensures c.in-None.ensures))

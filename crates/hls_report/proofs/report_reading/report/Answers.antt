use Rattle.std.proofs.Common.{◌++◌, []}
use Rattle.std.specs.Prelude.{map, None}
use Rattle.std.proofs.lemmas.Result.{err_from_is_err_and}
use Rattle.hls_report_text.specs.Content.{stretch_of}
use Rattle.hls_report_text.specs.ReportText.{head_lines}
use Rattle.hls_report.specs.Inside.Rests.{HeaderRest, CommandRest, RunRest, AccountRest}
use Rattle.hls_report.proofs.Reports.{command_lines, run_lines, report_told}
use Rattle.hls_report.proofs.Stuck.{pass_on, fail_behind}
use Rattle.hls_report.proofs.report_reading.report.Goals as goal

pub returns-in_err-schedule-clause-err : goal.returns-in_err-schedule-clause-err
returns-in_err-schedule-clause-err c =
    let head = c.in_ok-head.head in
    let v = head.version in
    let h = head.horizon in
    let front = head_lines v h head.depth in
    let ps = command_lines v c.in_ok-answered.answered.items in
    let p = pass_on HeaderRest (CommandRest v h 0 65536) (RunRest h 0 None []) front ps c.args.lines.now
    c.head.new.lines c.commands.new.lines c.in_ok-head.ensures.ok.passes c.in_ok-answered.ensures.ok.2 in
    let e = err_from_is_err_and c.from_residual-in_err-schedule.result
    c.from_residual-in_err-schedule.ensures.1 in
    rw (e.1, e.2) (fail_behind HeaderRest (RunRest h 0 None []) (front ++ ps) c.args.lines.now
    c.commands.new.lines c.in_err-schedule.field-0.0 p c.in_err-schedule.ensures.err)

pub returns-in_err-accounts-clause-err : goal.returns-in_err-accounts-clause-err
returns-in_err-accounts-clause-err c =
    let head = c.in_ok-head.head in
    let v = head.version in
    let h = head.horizon in
    let front = head_lines v h head.depth in
    let ps = command_lines v c.in_ok-answered.answered.items in
    let s = c.in_ok-schedule.schedule in
    let ss = run_lines (map (stretch_of s.names) s.runs) in
    let p = pass_on HeaderRest (CommandRest v h 0 65536) (RunRest h 0 None []) front ps c.args.lines.now
    c.head.new.lines c.commands.new.lines c.in_ok-head.ensures.ok.passes c.in_ok-answered.ensures.ok.2 in
    let q = pass_on HeaderRest (RunRest h 0 None []) (AccountRest h) (front ++ ps) ss c.args.lines.now
    c.commands.new.lines c.runs.new.lines p c.in_ok-schedule.ensures.ok.1 in
    let e = err_from_is_err_and c.from_residual-in_err-accounts.result
    c.from_residual-in_err-accounts.ensures.1 in
    rw (e.1, e.2) (fail_behind HeaderRest (AccountRest h) ((front ++ ps) ++ ss) c.args.lines.now
    c.runs.new.lines c.in_err-accounts.field-0.0 q c.in_err-accounts.ensures.err)

pub returns-clause-ok : goal.returns-clause-ok
returns-clause-ok c =
    let head = c.in_ok-head.ensures.ok in
    let commands = c.in_ok-answered.ensures.ok in
    let runs = c.in_ok-schedule.ensures.ok in
    let tail = c.in_ok-accounts.ensures.ok in
    rw (c.of.ensures, c.of-2.ensures) (report_told (record {
      version = c.in_ok-head.head.version;
      horizon = c.in_ok-head.head.horizon;
      depth = c.in_ok-head.head.depth;
      answered = c.in_ok-answered.answered.items;
      names = c.in_ok-schedule.schedule.names;
      runs = c.in_ok-schedule.schedule.runs;
      accounts = c.in_ok-accounts.accounts.items;
      idle = c.in_ok-accounts.idle;
    }) c.args.lines.now c.head.new.lines c.commands.new.lines c.runs.new.lines runs.0.short (record {
      version = head.version;
      horizon = head.horizon;
      depth = head.depth;
      few = commands.1;
      answered = commands.0;
      cover = runs.0.cover;
      names = runs.0.few;
      accounts = tail.0;
      idle = tail.1;
    }) head.passes commands.2 runs.1 tail.2)

use Rattle.std.proofs.Common.{◌≡◌, ◌+◌, ◌-◌, length, arith}
use Rattle.hls_chron.specs.Ticks.{one_if, count}
use Rattle.hls_chron.proofs.CountLaws.{count-le, one_if-le}
use Rattle.hls_guarantee.specs.Service.{schedule_of}
use Rattle.hls_audit_watch.proofs.Carrying.{window-got}
use Rattle.hls_audit_watch.proofs.keeping.last_window.Goals as goal

pub overflow_add-result : goal.overflow_add-result
overflow_add-result c =
    let most = count-le (schedule_of c.args.recent.now.list) c.saturating_sub-start.result
    (length c.args.recent.now.list - c.saturating_sub-start.result) in
    let one = one_if-le c.args.served in
    omega (arith, c.since.ensures, c.service.ensures, c.len-end.ensures.number, c.len-end.ensures.few)

pub returns-clause-got : goal.returns-clause-got
returns-clause-got c =
    let start : c.saturating_sub-start.result ≡ length c.args.recent.now.list + 1 - c.args.recent.now.period =
    omega (arith, c.saturating_sub-start.ensures, c.len-end.ensures.number, c.period.ensures.number) in
    let got : c.since.result + c.service.result ≡
    count (schedule_of c.args.recent.now.list) c.saturating_sub-start.result
    (length c.args.recent.now.list - c.saturating_sub-start.result) + one_if c.args.served =
    omega (arith, c.since.ensures, c.service.ensures) in
    window-got c.args.y c.args.recent.now.period c.args.recent.now.list c.args.served
    c.saturating_sub-start.result (c.since.result + c.service.result) c.requires start got

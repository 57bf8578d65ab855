use Rattle.std.proofs.Common.{arith}
use Rattle.hls_chron.proofs.CountLaws.{one_if-le}
use Rattle.hls_guarantee.specs.Service.{schedule_of}
use Rattle.hls_guarantee.proofs.Slides.{before-le}
use Rattle.hls_audit_watch.proofs.Overs.{slide_early, slide_late}
use Rattle.hls_audit_watch.proofs.over.slide.Goals as goal

pub overflow_add-result : goal.overflow_add-result
overflow_add-result c =
    let few = before-le (schedule_of c.args.served.now) c.args.y c.args.at in
    let one = one_if-le (schedule_of c.args.served.now c.args.at) in
    omega (arith, c.requires.got, c.requires.few, c.service-now.ensures, few, one)

pub overflow_add-result-2 : goal.overflow_add-result-2
overflow_add-result-2 c =
    let few = before-le (schedule_of c.args.served.now) c.args.y c.args.at in
    let one = one_if-le (schedule_of c.args.served.now c.args.at) in
    omega (arith, c.requires.got, c.requires.few, c.service-now.ensures, few, one)

pub returns-then-at-ticks : goal.returns-then-at-ticks
returns-then-at-ticks c =
    let next = slide_early (schedule_of c.args.served.now) c.args.y c.args.at c.args.got c.if-at-ticks.true
    c.requires.got in
    omega (arith, next, c.service-now.ensures)

pub overflow_sub-result : goal.overflow_sub-result
overflow_sub-result c =
    let next = slide_late (schedule_of c.args.served.now) c.args.y c.args.at c.args.got c.if-at-ticks.false
    c.requires.got in
    omega (arith, next, c.service-now.ensures, c.service-left.ensures)

pub returns : goal.returns
returns c =
    let next = slide_late (schedule_of c.args.served.now) c.args.y c.args.at c.args.got c.if-at-ticks.false
    c.requires.got in
    omega (arith, next, c.service-now.ensures, c.service-left.ensures)

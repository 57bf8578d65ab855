use Rattle.std.proofs.Common.{arith}
use Rattle.hls_guarantee.specs.Service.{schedule_of}
use Rattle.hls_chron.proofs.CountLaws.{one_if-le}
use Rattle.hls_guarantee.proofs.Slides.{before-le, slide_full, slide_front}
use Rattle.hls_guarantee.proofs.deciding.next_service.Goals as goal

pub overflow_add-more : goal.overflow_add-more
overflow_add-more c =
    let few = before-le (schedule_of c.args.list.now) c.args.width c.args.at in
    let one = one_if-le (schedule_of c.args.list.now c.args.at) in
    omega (arith, c.requires.few, c.requires.before)

pub overflow_sub-result : goal.overflow_sub-result
overflow_sub-result c =
    let slide = slide_full (schedule_of c.args.list.now) c.args.width c.args.at c.if-width-at.true in
    omega (arith, c.requires.before)

pub returns-then-width-at : goal.returns-then-width-at
returns-then-width-at c =
    let slide = slide_full (schedule_of c.args.list.now) c.args.width c.args.at c.if-width-at.true in
    omega (arith, c.requires.before)

pub returns-else-width-at : goal.returns-else-width-at
returns-else-width-at c =
    let slide = slide_front (schedule_of c.args.list.now) c.args.width c.args.at c.if-width-at.false in
    omega (arith, c.requires.before)

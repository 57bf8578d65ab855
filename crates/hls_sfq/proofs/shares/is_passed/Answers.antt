use Rattle.std.proofs.Common.{◌∙◌, ◌≢◌, ◌<◌, sym, arith}
use Rattle.hls_sfq.proofs.Rivals.{rivals_by_one}
use Rattle.hls_sfq.proofs.shares.is_passed.Goals as goal

pub returns-in-Some : goal.returns-in-Some
returns-in-Some c = λ passed.
    let slots = c.if-rival-ge-SLOTS.false in
    let few : c.from-rival.result < 32 = omega (arith, slots) in
    let own = c.if-rival-slot.false in
    let away : c.from-rival.result ≢ c.args.slot = omega (arith, own) in
    rivals_by_one c.args.queue.now c.args.slot c.args.mine c.args.step c.from-rival.result c.in-Some.theirs
    c.args.ticks few away (sym c.key.ensures ∙ c.in-Some.is) (c.passes.ensures passed)

use Rattle.std.proofs.Common.{arith, ◌∙◌, sym}
use Rattle.std.proofs.lemmas.Bool.{ltb-true}
use Rattle.hls_chron.specs.Ledger.{now_of}
use Rattle.hls_kinds.specs.Frames.{owner_in}
use Rattle.hls_wheel.proofs.Owning.{found}
use Rattle.hls_wheel.proofs.stretch.Stretch.ticks.Goals as goal

pub overflow_cast-result : goal.overflow_cast-result
overflow_cast-result c =
    let now = now_of c.args.book.now in
    let known = c.requires.here.some (ltb-true now c.args.self.now.until (sym c.lasts.ensures ∙ c.if-not-lasts.false))
    c.if-self-eq-NEVER.false in
    let its = known.1 in
    let here = c.from.ensures ∙ c.now-else-self-eq-NEVER.ensures.now in
    let few = found (owner_in c.args.places.now) c.args.frame now c.args.frame known.0 in
    omega (arith, its, here, few, c.requires.most)

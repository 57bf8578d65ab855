use Rattle.std.proofs.Common.{ℕ, ◌+◌, ◌-◌, ◌≡◌, arith, subst}
use Rattle.std.specs.Prelude.{Some}
use Rattle.hls_view_margins.specs.First.{IsFirstOf}
use Rattle.hls_view_margins.specs.Parts.{IsLong}
use Rattle.hls_view_margins.specs.declared.margin.Part.{Part}
use Rattle.hls_view_margins.specs.Inside.Sooner.{IsSoonerOf}
use Rattle.hls_view_margins.proofs.Lengths.{long_none, long_more}
use Rattle.hls_view_margins.proofs.parts.least_of_length.Goals as goal

pub loop-from-init : goal.loop-from-init
loop-from-init c = λ f end tell within. long_none c.args.scale.now f c.args.lo c.args.ticks c.requires.some

pub loop-from-preserved : goal.loop-from-preserved
loop-from-preserved c = λ f end tell within.
    long_more c.args.scale.now f c.args.lo c.loop-from.from c.args.ticks c.loop-from.first c.sooner-first.result
    c.loop-from.auto.from c.requires.some
    (subst (λ (p : Part). IsSoonerOf c.args.scale.now c.loop-from.first (Some p) c.sooner-first.result)
    (c.part_of.ensures f end tell (omega arith)) c.sooner-first.ensures)
    (c.loop-from.invariant f end tell within)

pub returns : goal.returns
returns c = λ f end tell within.
    let fits = c.requires.fits in
    let before : c.loop-from.from + c.args.ticks - 1 ≡ c.args.hi = omega arith in
    subst (λ (k : ℕ). IsFirstOf c.args.scale.now (IsLong f c.args.lo k c.args.ticks) c.loop-from.first) before
    (c.loop-from.invariant f end tell within)

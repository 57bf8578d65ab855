use Rattle.std.proofs.Common.{ℕ, ◌≡◌, ◌-◌, arith, subst, sym}
use Rattle.std.specs.Prelude.{min, Option}
use Rattle.hls_view_margins.specs.declared.margin.Part.{Part}
use Rattle.hls_view_margins.specs.Cuts.{IsBestOf}
use Rattle.hls_view_margins.proofs.Bests.{IsGiven, given, best_more}
use Rattle.hls_view_margins.proofs.best.best_piece.Goals as goal

pub loop-offset-preserved : goal.loop-offset-preserved
loop-offset-preserved c = λ f end tell within.
    let scale = c.args.scale.now in
    let window = c.args.window.now in
    let blocks = c.args.blocks.now in
    let some = window.some in
    best_more scale f window.lo window.hi blocks.hard blocks.most blocks.period c.loop-offset.offset c.loop-offset.best
    c.allowed.result c.better-best.result (c.loop-offset.invariant f end tell within)
    (subst (λ (p : Option Part).
    IsGiven scale f window.lo window.hi blocks.hard blocks.most blocks.period c.loop-offset.offset p)
    (sym c.allowed.ensures)
    (given scale f window.lo window.hi blocks.hard blocks.most blocks.period c.loop-offset.offset
    c.pieces_of-found.result some (let m = c.min-offset-end.ensures in omega arith)
    (c.pieces_of-found.ensures f end tell within)))
    c.better-best.ensures

pub returns : goal.returns
returns c = λ f end tell within.
    let scale = c.args.scale.now in
    let window = c.args.window.now in
    let blocks = c.args.blocks.now in
    let m = c.min-offset-end.ensures in
    let at : c.loop-offset.offset ≡ min blocks.period (window.hi - window.lo) = omega arith in
    subst (λ (k : ℕ).
    IsBestOf scale f window.lo window.hi blocks.hard blocks.most blocks.period k c.loop-offset.best)
    at (c.loop-offset.invariant f end tell within)

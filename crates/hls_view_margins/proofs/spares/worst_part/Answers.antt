use Rattle.std.proofs.Common.{ℕ, sym, subst}
use Rattle.hls_guarantee.specs.declared.Guarantee.{Guarantee}
use Rattle.hls_view_margins.specs.First.{IsFirstOf}
use Rattle.hls_view_margins.specs.Parts.{IsLong}
use Rattle.hls_view_margins.specs.Inside.Worst.{IsWorstOf}
use Rattle.hls_view_margins.proofs.spares.worst_part.Goals as goal

pub returns-in-All : goal.returns-in-All
returns-in-All c = λ f end tell within.
    subst (λ (g : Guarantee).
    IsWorstOf g c.args.scale.now f c.args.window.now.lo c.args.window.now.hi c.least_of_length.result)
    (sym c.in-All.is) (c.least_of_length.ensures f end tell within)

pub returns-in-Resb : goal.returns-in-Resb
returns-in-Resb c = λ f end tell within.
    subst (λ (g : Guarantee).
    IsWorstOf g c.args.scale.now f c.args.window.now.lo c.args.window.now.hi c.best_piece.result)
    (sym c.in-Resb.is) (c.best_piece.ensures f end tell within)

pub returns-in-Resc : goal.returns-in-Resc
returns-in-Resc c = λ f end tell within.
    let lo = c.args.window.now.lo in
    let hi = c.args.window.now.hi in
    subst (λ (g : Guarantee). IsWorstOf g c.args.scale.now f lo hi c.least_of_length-in-Resc.result)
    (sym c.in-Resc.is)
    (subst (λ (n : ℕ). IsFirstOf c.args.scale.now (IsLong f lo hi n) c.least_of_length-in-Resc.result) c.min.ensures
    (c.least_of_length-in-Resc.ensures f end tell within))

pub returns-in-Psbe : goal.returns-in-Psbe
returns-in-Psbe c = λ f end tell within.
    subst (λ (g : Guarantee).
    IsWorstOf g c.args.scale.now f c.args.window.now.lo c.args.window.now.hi c.least_of_all.result)
    (sym c.in-Psbe.is) (c.least_of_all.ensures f end tell within)

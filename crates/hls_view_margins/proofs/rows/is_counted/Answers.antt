use Rattle.std.proofs.Common.{ap, ◌∙◌, Bool, ◌&&◌, not}
use Rattle.hls_view_margins.proofs.Ons.{counts_by}
use Rattle.hls_view_margins.proofs.rows.is_counted.Goals as goal

pub returns : goal.returns
returns c = λ f g end tell served within.
    ap (λ (a : Bool). a && not (c.args.waiting && c.is_in-2.result)) (c.is_in.ensures f end tell within)
    ∙ ap (λ (b : Bool). f c.args.tick && not (c.args.waiting && b)) (c.is_in-2.ensures g end served within)
    ∙ counts_by c.args.waiting f g c.args.tick

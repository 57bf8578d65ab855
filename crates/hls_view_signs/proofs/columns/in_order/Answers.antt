use Rattle.std.proofs.Common.{sym, ◌∙◌, ap}
use Rattle.hls_view_signs.specs.Inside.Found.{is_found}
use Rattle.hls_view_signs.proofs.Ranges.{kept-next, left-next}
use Rattle.hls_view_signs.proofs.columns.in_order.Goals.{then-is_found+in_ok-push, else-is_found}
use Rattle.hls_view_signs.proofs.columns.in_order.Goals as goal

pub loop-column-preserved : goal.loop-column-preserved
loop-column-preserved c =
    let found = is_found c.args.found.now in
    let column = c.loop-column.column in
    elim c.if-is_found.branch [
      | then-is_found+in_ok-push w ↦
          kept-next found column c.loop-column.columns.items c.if-is_found.columns.items
          (sym c.is_found.ensures ∙ w.if-is_found.true) (ap (λ v. v.items) w.columns-is ∙ w.in_ok-push.ensures.items)
          c.loop-column.invariant
      | else-is_found w ↦
          left-next found column c.loop-column.columns.items c.if-is_found.columns.items
          (sym c.is_found.ensures ∙ w.if-is_found.false) (ap (λ v. v.items) w.columns-is) c.loop-column.invariant
    ]

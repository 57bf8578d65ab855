use Rattle.std.proofs.Common.{◌∙◌, ap, filter, List, ℕ}
use Rattle.std.specs.List.{range_with_len}
use Rattle.hls_view_signs.specs.Inside.Found.{is_found}
use Rattle.hls_view_signs.proofs.SignLaws.{columns_are_found}
use Rattle.hls_view_signs.proofs.signs.columns_for.Goals as goal

pub returns : goal.returns
returns c = λ content are.
    c.of.ensures ∙ c.in_ok-in_order.ensures
    ∙ ap (λ (found : List ℕ). filter (is_found found) (range_with_len 0 c.args.scale.now.columns)) c.deref.ensures.value
    ∙ columns_are_found content c.args.scale.now c.args.event c.args.row.now c.args.moments.now
    c.in_ok-found.found.items c.in_ok-found.ensures are

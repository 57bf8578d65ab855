use Rattle.std.proofs.Common.{◌+◌, ◌∙◌, ap}
use Rattle.hls_view_signs.proofs.ColumnLaws.{columns_are}
use Rattle.hls_view_signs.proofs.columns.column_count.Goals as goal

pub returns : goal.returns
returns c = ap (λ n. n + 1) c.column_of.ensures ∙ columns_are c.args.scale.now

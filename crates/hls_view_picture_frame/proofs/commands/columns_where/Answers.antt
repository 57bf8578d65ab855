use Rattle.std.proofs.Common.{ℕ, List, eqb, ap, ◌∙◌}
use Rattle.std.specs.List.{dedup}
use Rattle.std.proofs.lemmas.List.Filters.{dedup_is}
use Rattle.hls_view_picture_frame.proofs.commands.columns_where.Goals as goal

pub returns : goal.returns
returns c = dedup_is eqb _ _ c.dedup.ensures.filtered ∙ ap (λ (xs : List ℕ). dedup eqb xs) c.in_ok-columns.ensures

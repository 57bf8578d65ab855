-- What a way ends in.
use Rattle.std.proofs.Common.{◌≡◌, ◌∙◌, suc, ◌-◌, ◌∷◌, [], List, length, refl, ap, arith}
use Rattle.std.specs.Prelude.{Bool, false, Option, Some, None, slice_get}
use Rattle.hls_view_tale.specs.declared.label.Label.{Label}
use Rattle.hls_view_lanes.specs.Leaves.{is_leaf, is_thread}
use Rattle.hls_view_drawing.specs.Rows.{last_label}

abbrev ends_in_thread : Option Label → Bool
ends_in_thread None = false
ends_in_thread (Some label) = is_thread label

pub leaf_by_end : (way : List Label) → is_leaf way ≡ ends_in_thread (last_label way)
leaf_by_end [] = refl
leaf_by_end (label ∷ []) = refl
leaf_by_end (label ∷ next ∷ way) =
    let at : suc (length (next ∷ way) - 1) ≡ length (label ∷ next ∷ way) - 1 = omega arith in
    leaf_by_end (next ∷ way) ∙ ap (λ n. ends_in_thread (slice_get (label ∷ next ∷ way) n)) at

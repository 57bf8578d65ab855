-- What a way ends in.
use Rattle.std.proofs.Common.{◌≡◌, ◌-◌, suc, ◌∷◌, [], List, length, refl, ap, sym, ◌∙◌, arith}
use Rattle.std.specs.Prelude.{Bool, false, Option, Some, None, slice_get}
use Rattle.hls_view_tale.specs.declared.label.Label.{Label}
use Rattle.hls_view_lanes.specs.Leaves.{is_leaf, is_thread}

abbrev pub ends_in_thread : Option Label → Bool
ends_in_thread None = false
ends_in_thread (Some label) = is_thread label

pub leaf_by_end : (way : List Label) → is_leaf way ≡ ends_in_thread (slice_get way (length way - 1))
leaf_by_end [] = refl
leaf_by_end (label ∷ []) = refl
leaf_by_end (label ∷ next ∷ way) =
    let last : length (label ∷ next ∷ way) - 1 ≡ suc (length (next ∷ way) - 1) = omega arith in
    leaf_by_end (next ∷ way) ∙ ap (λ i. ends_in_thread (slice_get (label ∷ next ∷ way) i)) (sym last)

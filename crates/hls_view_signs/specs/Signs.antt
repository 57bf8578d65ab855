-- What happens in the rows of a picture.
use Rattle.std.specs.Prelude.{◌≡◌, List, [], ◌∷◌}
use Rattle.hls_report_text.specs.Content.{Content}
use Rattle.hls_view_scale.specs.declared.scale.Scale.{Scale}
use Rattle.hls_view_tale.specs.declared.label.Label.{Label}
use Rattle.hls_view_signs.specs.declared.event.Event.TheVariants.{Begun, Woken, Dropped}
use Rattle.hls_view_signs.specs.declared.signs.Signs.{Signs}
use Rattle.hls_view_signs.specs.Columns.{columns_with}
use Rattle.hls_view_signs.specs.Happenings.{happens_in}

pub record IsSigns (c : Content) (s : Scale) (row : List Label) (signs : Signs) : Type 0 where
  pub begins : signs.begins ≡ columns_with s (happens_in c Begun row)
  pub wakes : signs.wakes ≡ columns_with s (happens_in c Woken row)
  pub drops : signs.drops ≡ columns_with s (happens_in c Dropped row)

-- those of each row, in their order
abbrev pub AreSigns : Content → Scale → (rows : List (List Label)) → List Signs → Type 0
AreSigns c s [] [] = Unit {0}
AreSigns c s (row ∷ rows) (signs ∷ all) = IsSigns c s row signs × AreSigns c s rows all
AreSigns c s _ _ = ⊥

-- What is promised at a row can be spelled.
use Rattle.std.specs.Prelude.{Option, Some, None, List}
use Rattle.std.specs.List.{AllByRecursion}
use Rattle.hls_guarantee.specs.Limits.{IsValid}
use Rattle.hls_view_tale.specs.declared.label.Label.{Label}
use Rattle.hls_view_drawing.specs.Rows.{last_label}

abbrev pub IsValidAt : Option Label → Type 0
IsValidAt None = Unit {0}
IsValidAt (Some label) = IsValid label.kept

abbrev pub AreValid : (rows : List (List Label)) → Type 0
AreValid rows = AllByRecursion (λ row. IsValidAt (last_label row)) rows

-- The moves of the first commands, and of all.
use Rattle.std.proofs.Common.{◌≡◌, ℕ, List, ap, ◌∙◌}
use Rattle.std.specs.Prelude.{filter_map, length, slice_get}
use Rattle.std.specs.List.{range_with_len}
use Rattle.hls_report_text.specs.Content.{Content}
use Rattle.hls_view_scale.specs.declared.scale.Scale.{Scale}
use Rattle.hls_view_tale.specs.declared.label.Label.{Label}
use Rattle.hls_view_shifts.specs.declared.shifts.Shift.{Shift}
use Rattle.hls_view_shifts.specs.Shifts.{shift_at, shifts_among}

-- of so many commands, from the first
abbrev pub first_shifts : Content → Scale → (rows : List (List Label)) → (came : ℕ) → List Shift
first_shifts c s rows came =
    filter_map (λ place. shift_at c s rows place (slice_get c.answered place)) (range_with_len 0 came)

pub all_shifts : (c : Content) (s : Scale) (rows : List (List Label)) (came : ℕ) (found : List Shift)
    → found ≡ first_shifts c s rows came → came ≡ length c.answered → found ≡ shifts_among c s rows
unfolding shifts_among
all_shifts c s rows came found is all = is ∙ ap (first_shifts c s rows) all

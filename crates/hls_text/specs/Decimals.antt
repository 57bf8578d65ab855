-- The numbers that texts spell in decimal, without a leading zero.
use Rattle.std.specs.Prelude.{ℕ, ◌+◌, ◌-◌, ◌*◌, ◌&&◌, nat_lt, Bool, decimal, fold, Option, Some, None}
use Rattle.std.specs.Prelude.{if◌then◌else◌}
use Rattle.std.specs.Str.{bytes_eq}
use Rattle.hls_text.specs.Lines.{Text}

abbrev pub digit_step : ℕ → ℕ → ℕ
digit_step v b = 10 * v + (b - 48)

-- the number that digits stand for
abbrev pub value : Text → ℕ
value ds = fold digit_step 0 ds

abbrev pub is_number_below : (limit : ℕ) → Text → Bool
is_number_below limit text = nat_lt (value text) limit && bytes_eq (decimal (value text)) text

-- the number below a limit that a text spells
unfoldable pub number_below : (limit : ℕ) → Text → Option ℕ
number_below limit text = if is_number_below limit text then Some (value text) else None

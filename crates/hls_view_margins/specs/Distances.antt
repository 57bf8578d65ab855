-- How far a part is above what it wants, or below it.
use Rattle.std.specs.Prelude.{ℕ, ◌+◌, ◌-◌, ◌*◌, ◌≤◌, ◌<◌}
use Rattle.hls_frac.specs.Frac.{IsQuotient}
use Rattle.hls_view_margins.specs.declared.margin.Part.{Part}
use Rattle.hls_view_margins.specs.declared.margin.Distance.{Distance}
use Rattle.hls_view_margins.specs.declared.margin.Distance.TheVariants.{Above, Below}
use Rattle.hls_view_margins.specs.declared.scale.Scale.{Scale}
use Rattle.hls_view_margins.specs.First.{has, wants}

abbrev pub IsDistance : Scale → Part → Distance → Type 0
IsDistance scale part (Above f) = (wants scale part ≤ has scale part)
    × IsQuotient f (has scale part - wants scale part) scale.unit
IsDistance scale part (Below f) = (has scale part < wants scale part)
    × IsQuotient f (wants scale part - has scale part) scale.unit

-- rounded down to whole units
abbrev pub IsRoundedDown : Scale → Part → Distance → Type 0
IsRoundedDown scale part (Above f) = (n : ℕ) × IsQuotient f n 1
    × (n * scale.unit + wants scale part ≤ has scale part)
    × (has scale part < n * scale.unit + wants scale part + scale.unit)
IsRoundedDown scale part (Below f) = (n : ℕ) × IsQuotient f n 1
    × (wants scale part ≤ has scale part + n * scale.unit)
    × (has scale part + n * scale.unit < wants scale part + scale.unit)
    × (has scale part < wants scale part)

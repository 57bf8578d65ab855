-- The bursts that threads have begun, by their numbers.
use Rattle.std.specs.Prelude.{ℕ, Option, None, get_or}
use Rattle.hls_core.specs.Begun.{left_by, next_by}
use Rattle.hls_core.specs.declared.begun.Begun.{Begun}
use Rattle.hls_core.specs.declared.begun.Release.{Release}
use Rattle.hls_core.specs.declared.bursts.Bursts.{Bursts}

abbrev pub begun_in : Bursts → ℕ → Option Begun
begun_in bursts k = get_or bursts.begun.items k None

abbrev pub left_in : Bursts → ℕ → Option ℕ
left_in bursts k = left_by (begun_in bursts k)

abbrev pub next_in : Bursts → ℕ → Option Release
next_in bursts k = next_by (begun_in bursts k)
